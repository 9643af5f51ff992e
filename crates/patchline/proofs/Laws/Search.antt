-- Laws of searches for the first place that passes a test, beside those of optext Choose.
use mathlib.Core.Path.{◌≡◌, refl}
use mathlib.Core.Bool.{Bool, true, false, cond}
use Prim.Native.Nat.{ℕ, zero, suc, ◌-◌, ◌≤◌, ◌<◌}
use native.Mathlib.Omega.{arith}
use Rattle.optext.specs.First.{first_from}
use Rattle.optext.proofs.Laws.Choose.{first-at}

-- it is not before the place where the search begins
pub first-ge : (f : ℕ → Bool) (n i : ℕ) → i ≤ first_from f n i
first-ge f zero i = omega arith
first-ge f (suc n) i = go (f i) (first-ge f n (suc i))
  where
    go : (b : Bool) → suc i ≤ first_from f n (suc i) → i ≤ cond b i (first_from f n (suc i))
    go true h = omega arith
    go false h = omega arith

-- where none is found, none passes
pub first-none : (f : ℕ → Bool) (n k : ℕ) → n ≤ first_from f n 0 → k < n → f k ≡ false
first-none f n k h l = go (f k) refl
  where
    go : (b : Bool) → f k ≡ b → b ≡ false
    go true e = absurd (let z = first-at f n 0 k (omega arith) (omega arith) e in omega arith)
    go false e = refl

-- a loop that looks for it begins at 0
pub first-start : (f : ℕ → Bool) (n r : ℕ) → r ≡ first_from f n 0 → r ≡ first_from f (n - 0) 0
first-start f n r e =
    let z : n - 0 ≡ n = omega arith in
    rw z e
