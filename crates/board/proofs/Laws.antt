-- How what was got adds up.
pub mod Alike
pub mod Bounded
pub mod Ended
pub mod Follows
pub mod Once
pub mod Undo
pub mod Exec
use Prim.Native.Nat.{ℕ, ◌+◌, ◌*◌, ◌/◌, ◌%◌, ◌<◌}
use native.Mathlib.Omega.{arith}
use native.Mathlib.Decide.{ℕ_discrete, dec_lt}
use mathlib.Core.Bool.{Bool, true, false, ◌&&◌}
use mathlib.Core.List.{List}
use mathlib.Core.Path.{◌≡◌, refl, sym, ap, ◌∙◌, subst}
use lib.ListN.{get_or, set, length, length-set}
use lib.Seq.{get_or-set_same, get_or-set_other, set_out}
use borrow.Author.Tests.{ltb-true}
use Rattle.board.specs.Work.{Work, give, read_at, write_at, Size, word, byte, fitted, writable, even, image_word, with_word, with_byte, get, put, ◌>>=◌}
use Rattle.board.specs.Work as Work
use Rattle.board.specs.Exec.{Store, beside, Now, good, gone, log_count, log_room, note, with_note, allowed, exec, Board, Got, Saw, Did, answer_as}
use Rattle.board.proofs.Laws.Exec.{store_of}
use Rattle.board.specs.declared.Blank.{Blank}
use Rattle.std.specs.Prelude.{Result, Ok, Err}
use Rattle.std.specs.Result.{IsErrAnd}
use Rattle.std.proofs.lemmas.Result.{err_from_is_err_and}

abbrev and_then : {A B : Type 0} → Now A → (A → Store → Now B) → Now B
and_then (good x st) f = f x st
and_then (gone a st) f = gone a st

allowed-after : {A B : Type 0} (b : Bool) (a : ℕ) (st : Store) (x : Now A) (f : A → Store → Now B) → and_then (allowed b a st x) f ≡ allowed b a st (and_then x f)
allowed-after true a st x f = refl
allowed-after false a st x f = refl

exec-bind : {A B : Type 0} (map : List ℕ) (w : Work A) (f : A → Work B) (st : Store) → exec map (w >>= f) st ≡ and_then (exec map w st) (λ x t. exec map (f x) t)
unfolding exec ◌>>=◌
exec-bind map (give x) f st = refl
exec-bind map (read_at z a k) f st = rw (exec-bind map (k (get z st.image a)) f st, allowed-after)
exec-bind map (write_at z a v w) f st = rw (exec-bind map w f (with_note z a v st), allowed-after, allowed-after)

allowed-and : {A : Type 0} (b c : Bool) (a : ℕ) (st : Store) (x : Now A) → allowed b a st (allowed c a st x) ≡ allowed (b && c) a st x
allowed-and true c a st x = refl
allowed-and false c a st x = refl

pub and_right : (b c : Bool) → b && c ≡ true → c ≡ true
and_right true c e = e
and_right false true e = refl
and_right false false e = e

only_gone : {A : Type 0} (b : Bool) (a : ℕ) (st : Store) (x : A) (st₂ : Store) {r : Now A} {c : ℕ} {st₁ : Store} → r ≡ allowed b a st (good x st₂) → r ≡ gone c st₁ → r ≡ gone a st₁
only_gone true a st x st₂ e h = let z : ◌≡◌ {A = ℕ} 0 1 = cc in absurd (omega arith)
only_gone false a st x st₂ e h = cc

module _ {map : List ℕ} where
  -- work that came to a value, and then the work that follows it
  pub got-then : {A B : Type 0} {w : Work A} (f : A → Work B) {st st₁ : Store} {x : A} {r₁ : Now A} {r : Now B}
      → Got map w st r₁ → r₁ ≡ good x st₁ → Got map (f x) st₁ r → Got map (w >>= f) st r
  got-then {w = w} f {st} d e u = record { came = u.came ∙ sym (exec-bind map w f st ∙ ap (λ c. and_then c (λ x t. exec map (f x) t)) (sym d.came ∙ e)) }

  -- work that came to nothing ends there, with the address that was reached
  pub got-gone : {A B : Type 0} {w : Work A} (f : A → Work B) {a : ℕ} {st st₁ : Store} {r₁ : Now A} {r : Now B}
      → Got map w st r₁ → r₁ ≡ gone a st₁ → r ≡ gone a st₁ → Got map (w >>= f) st r
  got-gone {w = w} f {st = st} d e u = record { came = u ∙ sym (exec-bind map w f st ∙ ap (λ c. and_then c (λ x t. exec map (f x) t)) (sym d.came ∙ e)) }

  -- the same in other words
  pub got-as : {A : Type 0} {w : Work A} {st : Store} {x r : Now A} → Got map w st x → r ≡ x → Got map w st r
  got-as g e = record { came = e ∙ g.came }

  -- a value is given
  pub got-give : {A : Type 0} {x y : A} {st : Store} → y ≡ x → Got map (give x) st (good y st)
  unfolding exec
  got-give {st = st} e = record { came = ap (λ z. good z st) e }

  -- an access that finds its page fitted, and one that does not
  pub got_read : {st : Store} (z : Size) (a : ℕ) {v : ℕ} → fitted map a ≡ true → v ≡ get z st.image a → Got map (read_at z a (λ v. give v)) st (good v st)
  unfolding exec
  got_read z a e h = record { came = rw (e, h) }

  pub got-unread : {A : Type 0} (z : Size) (a : ℕ) {k : ℕ → Work A} {st : Store} → fitted map a ≡ false → Got map (read_at z a k) st (gone a st)
  unfolding exec
  got-unread z a e = record { came = rw e }

  -- an access that was not answered was not answered at its own address
  pub unread-at : {st : Store} {z : Size} {a : ℕ} {r : Now ℕ} {b : ℕ} {st₁ : Store} → Got map (read_at z a (λ v. give v)) st r → r ≡ gone b st₁ → r ≡ gone a st₁
  unfolding exec
  unread-at {st = st} {z = z} {a = a} g e = only_gone (fitted map a) a st (get z st.image a) st g.came e

  pub unwritten_at : {st : Store} {z : Size} {a v : ℕ} {r : Now (Unit {0})} {b : ℕ} {st₁ : Store} → Got map (write_at z a v (give tt)) st r → r ≡ gone b st₁ → r ≡ gone a st₁
  unfolding exec
  unwritten_at {st = st} {z = z} {a = a} {v = v} g e = only_gone (writable map a && log_room st.log) a st tt (with_note z a v st) (g.came ∙ allowed-and (writable map a) (log_room st.log) a st (good tt (with_note z a v st))) e

  -- a page that is fitted, and room in the log
  pub got-written : {st st' : Store} (z : Size) (a v : ℕ) → writable map a && log_room st.log ≡ true → st' ≡ with_note z a v st → Got {A = Unit {0}} map (write_at z a v (give tt)) st (good tt st')
  unfolding exec
  got-written {st = st} z a v e h = record { came = rw (h, allowed-and, e) }

  pub got-lost : {A : Type 0} (z : Size) (a : ℕ) {v : ℕ} {w : Work A} {st : Store} → writable map a && log_room st.log ≡ false → Got map (write_at z a v w) st (gone a st)
  unfolding exec
  got-lost z a e = record { came = rw (allowed-and, e) }

-- ---- the board stays a board

byte-set : (m : List ℕ) (i v j : ℕ) → v < 256 → ((k : ℕ) → get_or m k 0 < 256) → get_or (set m i v) j 0 < 256
byte-set m i v j l h = elim (ℕ_discrete j i) [ yes e ↦ here e (dec_lt i (length m)) | no d ↦ rw (get_or-set_other m i j v 0 d) (h j) ]
  where
    here : j ≡ i → Dec (i < length m) → get_or (set m i v) j 0 < 256
    here e (yes k) = rw (e, get_or-set_same m i v 0 k) l
    here e (no k) = rw (set_out m i v (omega arith)) (h j)

mod-byte : (v : ℕ) → v % 256 < 256
mod-byte v = omega arith

pub bytes-put : (z : Size) (m : List ℕ) (a v : ℕ) → ((k : ℕ) → get_or m k 0 < 256) → (j : ℕ) → get_or (put z m a v) j 0 < 256
unfolding with_word with_byte
bytes-put word m a v h j = byte-set (set m (even a) (v % 256)) (even a + 1) (v / 256 % 256) j (mod-byte (v / 256)) (λ k. byte-set m (even a) (v % 256) k (mod-byte v) h)
bytes-put byte m a v h j = byte-set m a (v % 256) j (mod-byte v) h

pub size-put : (z : Size) (m : List ℕ) (a v : ℕ) → length (put z m a v) ≡ length m
unfolding with_word with_byte
size-put word m a v = simp length-set
size-put byte m a v = simp length-set

size-note : (l : List ℕ) (a v : ℕ) → length (note l a v) ≡ length l
unfolding note
size-note l a v = simp length-set

pub count-note : (l : List ℕ) (a v : ℕ) → length l ≡ 32 → log_count (note l a v) ≡ log_count l + 1
unfolding note
count-note l a v e = get_or-set_same (set (set l (get_or l 0 0 * 2 + 1) a) (get_or l 0 0 * 2 + 2) v) 0 (get_or l 0 0 + 1) 0 (simp length-set (omega arith))

pub room-few : (l : List ℕ) → log_room l ≡ true → log_count l < 15
unfolding log_room
room-few l e = ltb-true (log_count l) 15 e

pub board-noted : {map : List ℕ} (z : Size) (a v : ℕ) (st : Store) → log_room st.log ≡ true → Board map st → Board map (with_note z a v st)
board-noted z a v st e b =
    let f = room-few st.log e in
    record {
      lent = record { pages = b.lent.pages; size = size-put z st.image a v ∙ b.lent.size; bytes = bytes-put z st.image a v b.lent.bytes };
      whole = size-note st.log a (image_word st.image a) ∙ b.whole;
      few = rw (count-note st.log a (image_word st.image a) b.whole) (omega arith);
    }

allowed-board : {A : Type 0} {map : List ℕ} (b : Bool) (a : ℕ) (st : Store) (x : Now A) → Board map st → (b ≡ true → Board map (store_of x)) → Board map (store_of (allowed b a st x))
allowed-board true a st x h g = g refl
allowed-board false a st x h g = h

pub exec-board : {A : Type 0} (map : List ℕ) (w : Work A) (st : Store) → Board map st → Board map (store_of (exec map w st))
unfolding exec
exec-board map (give x) st b = b
exec-board map (read_at z a k) st b = allowed-board (fitted map a) a st _ b (λ _. exec-board map (k (get z st.image a)) st b)
exec-board map (write_at z a v w) st b =
    allowed-board (writable map a) a st _ b (λ _. allowed-board (log_room st.log) a st _ b (λ e. exec-board map w (with_note z a v st) (board-noted z a v st e b)))

-- ---- functions: what they promise follows from what their callees do

-- the store that an answer leaves
answered-store : {A : Type 0} (r : Result A Blank) (st : Store) → store_of (answer_as r st) ≡ st
answered-store (Ok x) st = refl
answered-store (Err b) st = refl

-- what a function that writes promises follows from what it got
pub did : {A : Type 0} {map : List ℕ} {w : Work A} {st st' : Store} {r : Result A Blank} → Board map st → Got map w st (answer_as r st') → Did map w st r st'
did {map = map} {w = w} {st = st} {st' = st'} {r = r} b g =
    record { got = g; board = subst (λ (t : Store). Board map t) (ap store_of (sym g.came) ∙ answered-store r st') (exec-board map w st b) }

-- a value is given, and nothing is done
pub did-give : {A : Type 0} {map : List ℕ} {x : A} {st : Store} → Board map st → Did map (give x) st (Ok x) st
did-give b = did b (got-give refl)

pub saw-give : {A : Type 0} {map m : List ℕ} {x : A} → Saw map (give x) m (Ok x)
saw-give = record { got = got-give refl }

-- work that was answered, and the work that follows it
pub did-then : {A B : Type 0} {map : List ℕ} {w : Work A} (f : A → Work B) {st st₁ st' : Store} {q : Result A Blank} {x : A} {r : Result B Blank}
    → Did map w st q st₁ → q ≡ Ok x → Did map (f x) st₁ r st' → Did map (w >>= f) st r st'
did-then f {st₁ = st₁} d e u = record { got = got-then f d.got (ap (λ z. answer_as z st₁) e) u.got; board = u.board }

-- the error of an answer that is passed on
pub passed : {A : Type 0} {r : Result A Blank} {b : Blank} → IsErrAnd r (λ y. y ≡ b) → r ≡ Err b
passed {r = r} h = let p = err_from_is_err_and r h in p.1 ∙ ap Err p.2

-- work that was not answered ends there
pub did-fail : {A B : Type 0} {map : List ℕ} {w : Work A} (f : A → Work B) {st st₁ : Store} {q : Result A Blank} {b : Blank} {r : Result B Blank}
    → Did map w st q st₁ → q ≡ Err b → IsErrAnd r (λ y. y ≡ b) → Did map (w >>= f) st r st₁
did-fail f {st₁ = st₁} d e h = record { got = got-gone f d.got (ap (λ z. answer_as z st₁) e) (ap (λ z. answer_as z st₁) (passed h)); board = d.board }

-- the same of functions that only read
pub saw-then : {A B : Type 0} {map m : List ℕ} {w : Work A} (f : A → Work B) {q : Result A Blank} {x : A} {r : Result B Blank}
    → Saw map w m q → q ≡ Ok x → Saw map (f x) m r → Saw map (w >>= f) m r
saw-then {m = m} f d e u = record { got = λ {l}. got-then f (d.got {l = l}) (ap (λ z. answer_as z (beside m l)) e) (u.got {l = l}) }

pub saw-fail : {A B : Type 0} {map m : List ℕ} {w : Work A} (f : A → Work B) {q : Result A Blank} {b : Blank} {r : Result B Blank}
    → Saw map w m q → q ≡ Err b → IsErrAnd r (λ y. y ≡ b) → Saw map (w >>= f) m r
saw-fail {m = m} f d e h = record { got = λ {l}. got-gone f (d.got {l = l}) (ap (λ z. answer_as z (beside m l)) e) (ap (λ z. answer_as z (beside m l)) (passed h)) }

-- who only reads leaves the store
pub did-saw : {A : Type 0} {map m l : List ℕ} {w : Work A} {r : Result A Blank} → Board map (beside m l) → Saw map w m r → Did map w (beside m l) r (beside m l)
did-saw {l = l} b s = did b (s.got {l = l})
