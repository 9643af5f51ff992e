-- Laws of lines and origins.
use mathlib.Core.Path.{◌≡◌, refl, ◌∙◌}
use mathlib.Core.Logic.{◌⊎◌, ⊎_elim}
use mathlib.Core.List.{List}
use Prim.Native.Nat.{ℕ, ◌+◌, ◌-◌, ◌*◌, ◌<◌}
use native.Mathlib.Numerals.{add-one}
use native.Mathlib.Omega.{arith}
use lib.ListN.{length, take, drop, get_or, set}
use lib.Seq.{get_or-set_same, get_or-set_other}
use Rattle.assembler.specs.Source.{line_at, said_at, origin_at, end_at, next_from, end_after}
use Rattle.patchline.specs.declared.oneline.Said.{Said}
use Rattle.optext.proofs.Laws.Choose.{eq-cases}

pub line-is : (s : List ℕ) (i : ℕ) → take (32 * i + 32 - 32 * i) (drop (32 * i) s) ≡ line_at s i
unfolding line_at
line-is s i =
    let z : 32 * i + 32 - 32 * i ≡ 32 = omega arith in
    rw z refl

-- one line more
pub origin-next : (s : List ℕ) (i o : ℕ) (said : Said) → o ≡ origin_at s i → said ≡ said_at s i → next_from o said ≡ origin_at s (i + 1)
unfolding origin_at
origin-next s i o said e q = rw (add-one i, e, q) refl

pub end_is : (s : List ℕ) (i o : ℕ) (said : Said) → o ≡ origin_at s i → said ≡ said_at s i → end_after o said ≡ end_at s i
unfolding end_at
end_is s i o said e q = rw (e, q) refl

-- a table with one place more
pub table_more : (f : ℕ → ℕ) (t : List ℕ) (n x : ℕ) → n < length t → ((k : ℕ) → k < n → get_or t k 0 ≡ f k) → x ≡ f n
    → (k : ℕ) → k < n + 1 → get_or (set t n x) k 0 ≡ f k
table_more f t n x h p e k l =
    ⊎_elim (λ q. here q) (λ q. get_or-set_other t n k x 0 q ∙ p k (there q)) (eq-cases k n)
  where
    here : k ≡ n → get_or (set t n x) k 0 ≡ f k
    here q = rw q (get_or-set_same t n x 0 h ∙ e)

    there : (k ≡ n → ⊥) → k < n
    there q = omega arith

pub table_none : (f : ℕ → ℕ) (t : List ℕ) (k : ℕ) → k < 0 → get_or t k 0 ≡ f k
table_none f t k l = absurd (omega arith)
