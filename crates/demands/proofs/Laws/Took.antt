-- A call for C that answers 0 leaves the bytes of what is right.
use Prim.Native.Nat.{ℕ, zero, suc}
use native.Mathlib.Omega.{arith}
use mathlib.Core.List.{List}
use mathlib.Core.Path.{◌≡◌, ap}
use Rattle.refusal.specs.Page.{answered, left, call, told, reading}

-- two refusals in a row: `bad` of the lent bytes, `why` of the call
pub took : {A C : Type 0} (bytes : A → List ℕ → C) (kept : List ℕ → C) (m : List ℕ) (bad why : ℕ) (p : A) (n : List ℕ) {c : C}
    → told 0 c ≡ reading bytes kept (call bad (call why (left (answered p) n) m) m) → c ≡ bytes p n
took bytes kept m zero zero p n e = ap (λ z. z.lent) e
took bytes kept m zero (suc why) p n e = absurd (omega (arith, ap (λ z. z.number) e))
took bytes kept m (suc bad) why p n e = absurd (omega (arith, ap (λ z. z.number) e))
