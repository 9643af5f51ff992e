use mathlib.Core.Path.{ap, ◌∙◌}
use Prim.Native.Nat.{ℕ}
use native.Mathlib.Omega.{arith}
use Rattle.patchline.proofs.Laws.{place-le}
use Rattle.patchline.specs.Text.{find_from}
use Rattle.patchline.specs.Line.{comma_at}
use Rattle.patchline.proofs.oneline.comma_at.Goals as goal

pub returns : goal.returns
unfolding comma_at
returns c = (c.place.ensures ∙ ap (λ (n : ℕ). find_from 44 c.args.t.now n) c.operands_at.ensures.0, omega (arith, place-le _ _ _ _ c.place.ensures))
