-- What every end of a piece of work has, whatever it reads and whatever of it is answered.
use Prim.Native.Nat.{ℕ, zero, suc}
use mathlib.Core.Bool.{Bool, true, false, cond, true≢false}
use mathlib.Core.List.{List, [], ◌∷◌}
use mathlib.Core.Path.{◌≡◌, refl, sym, ap, subst}
use lib.ListN.{get_or}
use Rattle.board.specs.Work.{Work, give, read_at, write_at, Came, value, fitted, writable, get, put, found, run, ◌>>=◌}
use Rattle.board.proofs.Laws.Alike.{found-value}

-- every A that the work may end in is so
unfoldable pub Always : {A : Type 0} → (A → Type 0) → Work A → Type 0
Always P (give x) = P x
Always P (read_at z a k) = (v : ℕ) → Always P (k v)
Always P (write_at z a v w) = Always P w

-- what it comes to is one of its ends
pub always-value : {A : Type 0} (P : A → Type 0) (map : List ℕ) (w : Work A) (m : List ℕ) {x : A} {n : List ℕ} → Always P w → run map w m ≡ value x n → P x
unfolding Always run
always-value {A} P map (give y) m {x} {n} p h = let same : y ≡ x = given h in subst P same p
  where
    given : {y x : A} {m n : List ℕ} → value y m ≡ value x n → y ≡ x
    given h = cc
always-value P map (read_at z a k) m {x} {n} p h = always-value P map (k (get z m a)) m (p (get z m a)) (found-value (fitted map a) a _ x n h).1
always-value P map (write_at z a v w) m {x} {n} p h = always-value P map w (put z m a v) p (found-value (writable map a) a _ x n h).1

-- work after work
pub always-then : {A B : Type 0} (P : A → Type 0) (Q : B → Type 0) (w : Work A) (f : A → Work B) → Always P w → ((x : A) → P x → Always Q (f x)) → Always Q (w >>= f)
unfolding Always ◌>>=◌
always-then P Q (give x) f p g = g x p
always-then P Q (read_at z a k) f p g = λ v. always-then P Q (k v) f (p v) g
always-then P Q (write_at z a v w) f p g = always-then P Q w f p g

-- giving what came last adds nothing
pub run-give : {A : Type 0} (map : List ℕ) (w : Work A) (m : List ℕ) → run map (w >>= (λ x. give x)) m ≡ run map w m
unfolding run ◌>>=◌
run-give map (give x) m = refl
run-give map (read_at z a k) m = ap (λ c. found (fitted map a) a c) (run-give map (k (get z m a)) m)
run-give map (write_at z a v w) m = ap (λ c. found (writable map a) a c) (run-give map w (put z m a v))

-- work after work that came to a value: so did the first, and then the second
pub record Split {A B : Type 0} (map : List ℕ) (w : Work A) (f : A → Work B) (m : List ℕ) (y : B) (n : List ℕ) : Type 0 where
  pub came : A
  pub image : List ℕ
  pub first : run map w m ≡ value came image
  pub second : run map (f came) image ≡ value y n

found-true : {A : Type 0} (b : Bool) (a : ℕ) (y c : Came A) → b ≡ true → y ≡ c → found b a y ≡ c
found-true true a y c e h = h
found-true false a y c e h = absurd (true≢false (sym e))

pub run-split : {A B : Type 0} (map : List ℕ) (w : Work A) (f : A → Work B) (m : List ℕ) {y : B} {n : List ℕ} → run map (w >>= f) m ≡ value y n → Split map w f m y n
unfolding run ◌>>=◌
run-split map (give x) f m h = record { came = x; image = m; first = refl; second = h }
run-split map (read_at z a k) f m {y} {n} h =
    let here = found-value (fitted map a) a _ y n h in
    let s = run-split map (k (get z m a)) f m here.1 in
    record { came = s.came; image = s.image; first = found-true (fitted map a) a _ _ here.0 s.first; second = s.second }
run-split map (write_at z a v w) f m {y} {n} h =
    let here = found-value (writable map a) a _ y n h in
    let s = run-split map w f (put z m a v) here.1 in
    record { came = s.came; image = s.image; first = found-true (writable map a) a _ _ here.0 s.first; second = s.second }

-- whatever the first comes to
pub always-after : {A B : Type 0} (Q : B → Type 0) (w : Work A) (f : A → Work B) → ((x : A) → Always Q (f x)) → Always Q (w >>= f)
unfolding Always ◌>>=◌
always-after Q (give x) f g = g x
always-after Q (read_at z a k) f g = λ v. always-after Q (k v) f g
always-after Q (write_at z a v w) f g = always-after Q w f g

-- less is asked
pub always-less : {A : Type 0} (P Q : A → Type 0) (w : Work A) → ((x : A) → P x → Q x) → Always P w → Always Q w
unfolding Always
always-less P Q (give x) g p = g x p
always-less P Q (read_at z a k) g p = λ v. always-less P Q (k v) g (p v)
always-less P Q (write_at z a v w) g p = always-less P Q w g p

-- one of two, and one of a list
pub always-cond : {A : Type 0} (P : A → Type 0) (b : Bool) (w u : Work A) → Always P w → Always P u → Always P (cond b w u)
always-cond P true w u p q = p
always-cond P false w u p q = q

-- each of a list of works
unfoldable pub AlwaysEach : {A : Type 0} → (A → Type 0) → List (Work A) → Type 0
AlwaysEach P [] = Unit {0}
AlwaysEach P (w ∷ ws) = Always P w × AlwaysEach P ws

pub always-pick : {A : Type 0} (P : A → Type 0) (ws : List (Work A)) (k : ℕ) (w : Work A) → AlwaysEach P ws → Always P w → Always P (get_or ws k w)
unfolding AlwaysEach
always-pick P [] k w e p = p
always-pick P (u ∷ ws) zero w e p = e.0
always-pick P (u ∷ ws) (suc k) w e p = always-pick P ws k w e.1 p
