use mathlib.Core.Path.{refl, ◌∙◌}
use Rattle.assembler.specs.Source.{line_op}
use Rattle.assembler.proofs.source.words_in.Goals as goal

pub returns : goal.returns
unfolding line_op
returns c = c.put_label.ensures ∙ rw (c.label_in-2.ensures, c.second.ensures, c.put_label-p.ensures, c.label_in.ensures, c.first.ensures, c.meaning-s.ensures.0) refl
