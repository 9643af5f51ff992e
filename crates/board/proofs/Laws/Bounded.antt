-- Work that writes at most n times, with room for n entries in the log, comes to what it comes to on the image alone.
use Prim.Native.Nat.{ℕ, zero, suc, ◌+◌, ◌<◌, ◌≤◌, ◌-◌}
use native.Mathlib.Omega.{arith}
use mathlib.Core.Bool.{Bool, true, false, cond}
use mathlib.Core.List.{List, [], ◌∷◌}
use mathlib.Core.Path.{◌≡◌, refl}
use lib.ListN.{get_or}
use lib.Dec.{ltb}
use borrow.Author.Tests.{lt-ltb, ltb-true}
use Rattle.board.specs.Work.{Work, give, read_at, write_at, Size, fitted, writable, get, image_word, Came, found, run, value, blank, ◌>>=◌}
use Rattle.board.specs.Exec.{Store, Now, log_count, log_room, with_note, allowed, exec, Board, good, gone}
use Rattle.board.proofs.Laws.{board-noted, count-note}

pub data Bounded {A : Type 0} : ℕ → Work A → Type 0 where
  gives : {n : ℕ} (x : A) → Bounded n (give x)
  reads : {n : ℕ} (z : Size) (a : ℕ) {k : ℕ → Work A} → ((v : ℕ) → Bounded n (k v)) → Bounded n (read_at z a k)
  writes : {n : ℕ} (z : Size) (a v : ℕ) {w : Work A} → 0 < n → Bounded (n - 1) w → Bounded n (write_at z a v w)

-- what shows of a store: the image
abbrev pub shown_of : {A : Type 0} → Now A → Came A
shown_of (good x st) = value x st.image
shown_of (gone a st) = blank a

pub bounded-more : {A : Type 0} {n k : ℕ} {w : Work A} → n ≤ k → Bounded n w → Bounded k w
bounded-more l (gives x) = gives x
bounded-more l (reads z a h) = reads z a (λ v. bounded-more l (h v))
bounded-more {k = k} l (writes z a v p h) = writes {n = k} z a v (omega arith) (bounded-more (omega arith) h)

pub bounded-then : {A B : Type 0} {n k m : ℕ} {w : Work A} {f : A → Work B} → n + k ≤ m → Bounded n w → ((x : A) → Bounded k (f x)) → Bounded m (w >>= f)
unfolding ◌>>=◌
bounded-then l (gives x) g = bounded-more (omega arith) (g x)
bounded-then l (reads z a h) g = reads z a (λ v. bounded-then l (h v) g)
bounded-then {m = m} l (writes z a v p h) g = writes {n = m} z a v (omega arith) (bounded-then (omega arith) h g)

shown-allowed : {A : Type 0} (b : Bool) (a : ℕ) (st : Store) (x : Now A) (y : Came A) → (b ≡ true → shown_of x ≡ y) → shown_of (allowed b a st x) ≡ found b a y
shown-allowed true a st x y h = h refl
shown-allowed false a st x y h = refl

has_room : (l : List ℕ) → log_count l < 15 → log_room l ≡ true
unfolding log_room
has_room l q = lt-ltb (log_count l) 15 q

-- THE SAME AS ON THE IMAGE ALONE
pub exec-is-run : {A : Type 0} (map : List ℕ) {n : ℕ} {w : Work A} → Bounded n w → (st : Store) → Board map st → log_count st.log + n ≤ 15 → shown_of (exec map w st) ≡ run map w st.image
unfolding exec run
exec-is-run map (gives x) st b h = refl
exec-is-run map (reads z a g) st b h = shown-allowed (fitted map a) a st _ _ (λ _. exec-is-run map (g (get z st.image a)) st b h)
exec-is-run map (writes z a v p g) st b h =
    let e = has_room st.log (omega arith) in
    shown-allowed (writable map a) a st _ _ (λ _. rw e (exec-is-run map g (with_note z a v st) (board-noted z a v st e b) (rw (count-note st.log a (image_word st.image a) b.whole) (omega arith))))

pub bounded-cond : {A : Type 0} {n : ℕ} (b : Bool) {x y : Work A} → Bounded n x → Bounded n y → Bounded n (cond b x y)
bounded-cond true h k = h
bounded-cond false h k = k

-- one of several works, each of them bounded
pub data AllBounded {A : Type 0} (n : ℕ) : List (Work A) → Type 0 where
  none : AllBounded n []
  also : {w : Work A} {ws : List (Work A)} → Bounded n w → AllBounded n ws → AllBounded n (w ∷ ws)

pub bounded-get_d : {A : Type 0} {n : ℕ} {ws : List (Work A)} (k : ℕ) {w : Work A} → AllBounded n ws → Bounded n w → Bounded n (get_or ws k w)
bounded-get_d k none h = h
bounded-get_d zero (also g gs) h = g
bounded-get_d (suc k) (also g gs) h = bounded-get_d k gs h

-- By the shape of the work, for `search`: given, read, written, one of two, one of several. A write takes one of n, a number that is written out.
pub bounded-write : {A : Type 0} {n : ℕ} (z : Size) (a v : ℕ) {w : Work A} → ltb 0 n ≡ true → Bounded (n - 1) w → Bounded n (write_at z a v w)
bounded-write {n = n} z a v e h = writes {n = n} z a v (ltb-true 0 n e) h

pub ruleset bounds = (gives, reads, bounded-write, bounded-cond, bounded-get_d, none, also)
