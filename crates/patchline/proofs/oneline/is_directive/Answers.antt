use Rattle.std.proofs.Common.{refl}
use Rattle.patchline.specs.Line.{is_directive}
use Rattle.optext.proofs.Laws.Read.{same-pointwise}
use Rattle.patchline.proofs.oneline.is_directive.Goals as goal

pub returns : goal.returns
unfolding is_directive
returns c = rw (c.is_number.ensures, c.after.ensures, c.eq.ensures, same-pointwise, c.part.ensures) refl
