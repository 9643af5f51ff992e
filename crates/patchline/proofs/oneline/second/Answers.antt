use mathlib.Core.Path.{refl, ◌∙◌}
use Rattle.patchline.specs.Line.{second_in}
use Rattle.patchline.proofs.oneline.second.Goals as goal

pub returns : goal.returns
unfolding second_in
returns c = c.after.ensures ∙ rw c.comma_at.ensures.0 refl
