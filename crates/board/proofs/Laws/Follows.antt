-- What work comes to when other work follows it, and what a write leaves of a word that it does not reach.
use Prim.Native.Nat.{ℕ, ◌+◌, ◌*◌, ◌/◌, ◌%◌}
use native.Mathlib.Omega.{arith}
use mathlib.Core.Bool.{Bool, true, false}
use mathlib.Core.List.{List}
use mathlib.Core.Path.{◌≡◌, refl, ap, ◌∙◌}
use lib.ListN.{set}
use lib.Seq.{get_or-set_other}
use Rattle.board.specs.Work.{Work, give, read_at, write_at, Size, word, byte, Came, value, blank, found, run, fitted, writable, even, image_word, with_word, with_byte, get, put, ◌>>=◌}

abbrev follow : {A B : Type 0} → Came A → (A → List ℕ → Came B) → Came B
follow (value x m) f = f x m
follow (blank a) f = blank a

found-follow : {A B : Type 0} (b : Bool) (a : ℕ) (c : Came A) (f : A → List ℕ → Came B) → found b a (follow c f) ≡ follow (found b a c) f
found-follow true a c f = refl
found-follow false a c f = refl

run_bind : {A B : Type 0} (map : List ℕ) (w : Work A) (f : A → Work B) (m : List ℕ) → run map (w >>= f) m ≡ follow (run map w m) (λ x n. run map (f x) n)
unfolding run ◌>>=◌
run_bind map (give x) f m = refl
run_bind map (read_at z a k) f m = rw (run_bind map (k (get z m a)) f m) (found-follow (fitted map a) a _ _)
run_bind map (write_at z a v w) f m = rw (run_bind map w f (put z m a v)) (found-follow (writable map a) a _ _)

-- after work that came to a value, what follows begins with that value and that image
pub run-then : {A B : Type 0} (map : List ℕ) (w : Work A) (f : A → Work B) (m : List ℕ) {x : A} {n : List ℕ} → run map w m ≡ value x n → run map (w >>= f) m ≡ run map (f x) n
run-then map w f m e = run_bind map w f m ∙ ap (λ c. follow c (λ x n. run map (f x) n)) e

-- a write into another word leaves a word as it is
pub put-apart : (z : Size) (m : List ℕ) (b v x : ℕ) → (b / 2 ≡ x / 2 → ⊥) → image_word (put z m b v) x ≡ image_word m x
unfolding image_word with_word with_byte even
put-apart word m b v x h =
    rw (
      get_or-set_other (set m (b / 2 * 2) (v % 256)) (b / 2 * 2 + 1) (x / 2 * 2) (v / 256 % 256) 0 (λ e. omega arith),
      get_or-set_other m (b / 2 * 2) (x / 2 * 2) (v % 256) 0 (λ e. h (omega arith)),
      get_or-set_other (set m (b / 2 * 2) (v % 256)) (b / 2 * 2 + 1) (x / 2 * 2 + 1) (v / 256 % 256) 0 (λ e. h (omega arith)),
      get_or-set_other m (b / 2 * 2) (x / 2 * 2 + 1) (v % 256) 0 (λ e. omega arith),
    )
put-apart byte m b v x h = rw (get_or-set_other m b (x / 2 * 2) (v % 256) 0 (λ e. h (omega arith)), get_or-set_other m b (x / 2 * 2 + 1) (v % 256) 0 (λ e. h (omega arith)))
