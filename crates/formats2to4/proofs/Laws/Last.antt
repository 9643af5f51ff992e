-- The last op code of formats 2 and 4: where OPC is none of those before it. n is OPC, a number of 16 bits.
use Prim.Native.Nat.{ℕ, zero, suc, ◌<◌, ◌≤◌}
use mathlib.Core.Path.{◌≡◌, refl}
use native.Mathlib.Omega.{arith}
use lib.ListN.{get_or}
use Rattle.wordmath.specs.Address.{minus}
use Rattle.opcodes.proofs.Laws.Past.{from_last}
use Rattle.state.specs.declared.State.{State}
use Rattle.state.specs.declared.Outside.{Outside}
use Rattle.formats2to4.specs.Format2.{prtn, codes2}
use Rattle.formats2to4.specs.Format4.{svc, codes4}

-- such a number is before the first of four, and goes round, or past the third; and the same of three
past-third : (n : ℕ) → (n ≡ 2 → ⊥) → (n ≡ 3 → ⊥) → (n ≡ 4 → ⊥) → n < 65536 → 3 ≤ minus n 2
past-third zero x y z l = omega arith
past-third (suc zero) x y z l = omega arith
past-third (suc (suc zero)) x y z l = absurd (x refl)
past-third (suc (suc (suc zero))) x y z l = absurd (y refl)
past-third (suc (suc (suc (suc zero)))) x y z l = absurd (z refl)
past-third (suc (suc (suc (suc (suc n))))) x y z l = omega (arith, l)

past-second : (n : ℕ) → (n ≡ 1 → ⊥) → (n ≡ 2 → ⊥) → n < 65536 → 2 ≤ minus n 1
past-second zero x y l = omega arith
past-second (suc zero) x y l = absurd (x refl)
past-second (suc (suc zero)) x y l = absurd (y refl)
past-second (suc (suc (suc n))) x y l = omega (arith, l)

pub format2-last : (out : Outside) (s : State) (k n : ℕ) → (n ≡ 2 → ⊥) → (n ≡ 3 → ⊥) → (n ≡ 4 → ⊥) → n < 65536 → get_or (codes2 out s k) (minus n 2) (prtn s k) ≡ prtn s k
format2-last out s k n x y z l = from_last (codes2 out s k) (prtn s k) (minus n 2) refl (past-third n x y z l)

pub format4-last : (out : Outside) (s : State) (k n : ℕ) → (n ≡ 1 → ⊥) → (n ≡ 2 → ⊥) → n < 65536 → get_or (codes4 out s k) (minus n 1) (svc out s k 0x26) ≡ svc out s k 0x26
format4-last out s k n x y l = from_last (codes4 out s k) (svc out s k 0x26) (minus n 1) refl (past-second n x y l)
