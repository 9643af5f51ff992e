use mathlib.Core.Path.{ap}
use Prim.Native.Nat.{ℕ, ◌+◌}
use native.Mathlib.Omega.{arith}
use Rattle.patchline.proofs.Laws.{place-le}
use Rattle.patchline.specs.Line.{operands_at}
use Rattle.patchline.proofs.oneline.operands_at.Goals as goal

pub overflow_add-result : goal.overflow_add-result
overflow_add-result c = omega (arith, place-le _ _ _ _ c.place.ensures)

pub returns : goal.returns
unfolding operands_at
returns c = (ap (λ (n : ℕ). n + 1) c.place.ensures, omega (arith, place-le _ _ _ _ c.place.ensures))
