use mathlib.Core.Path.{ap, ◌∙◌}
use Rattle.patchline.specs.Text.{rest_of}
use Rattle.assembler.specs.Source.{text_at}
use Rattle.assembler.proofs.source.text_at.Goals as goal

pub returns : goal.returns
unfolding text_at
returns c = c.rest.ensures ∙ ap rest_of c.line_at.ensures
