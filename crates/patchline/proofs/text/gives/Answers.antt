use Rattle.std.proofs.Common.{refl}
use Rattle.optext.proofs.Laws.Read.{same-pointwise}
use Rattle.patchline.proofs.Laws.{gives-short}
use Rattle.patchline.specs.Text.{gives}
use Rattle.patchline.proofs.text.gives.Goals as goal

pub returns-then-n-line : goal.returns-then-n-line
unfolding gives
returns-then-n-line c = rw (c.eq.ensures, same-pointwise, c.byte_at.ensures, c.byte_at-then-n-line.ensures) refl

pub returns : goal.returns
returns c = gives-short _ _ c.if-n-line.false
