use mathlib.Core.Path.{ap, ◌∙◌}
use Rattle.patchline.specs.Line.{said_of}
use Rattle.assembler.specs.Source.{said_at}
use Rattle.assembler.proofs.source.said_at.Goals as goal

pub returns : goal.returns
unfolding said_at
returns c = (c.meaning.ensures.0 ∙ ap said_of c.text_at.ensures, c.meaning.ensures.1)
