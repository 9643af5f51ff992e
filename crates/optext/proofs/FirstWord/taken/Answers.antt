use Rattle.std.proofs.Common.{refl, arith}
use Rattle.optext.specs.Line.{taken}
use Rattle.optext.proofs.FirstWord.taken.Goals as goal

pub returns : goal.returns
unfolding taken
returns c = (rw (c.first_takes.ensures.0, c.second_takes.ensures.0) refl, omega (arith, c.first_takes.ensures.1, c.second_takes.ensures.1))
