use mathlib.Core.Path.{refl, ◌∙◌}
use Rattle.patchline.specs.Line.{bare_operand}
use Rattle.patchline.proofs.oneline.bare.Goals as goal

pub returns : goal.returns
unfolding bare_operand
returns c = c.after.ensures ∙ rw c.at.ensures.0 refl
