use mathlib.Core.Path.{refl}
use Rattle.assembler.specs.Source.{far}
use Rattle.assembler.proofs.source.too_far.Goals as goal

pub returns : goal.returns
unfolding far
returns c = rw (c.is_far-2.ensures, c.label_in-2.ensures, c.second.ensures, c.is_far.ensures, c.label_in.ensures, c.first.ensures, c.meaning-s.ensures.0) refl
