use Rattle.std.proofs.Common.{refl}
use Rattle.optext.proofs.Laws.Read.{same-pointwise}
use Rattle.patchline.specs.Text.{is_register}
use Rattle.patchline.proofs.text.is_register.Goals as goal

pub returns : goal.returns
unfolding is_register
returns c = rw (c.eq.ensures, c.eq-2.ensures, c.as_slice.ensures, c.as_slice-2.ensures, same-pointwise, same-pointwise) refl
