use Rattle.optext.specs.Line.{registers, reg_b}
use Rattle.std.proofs.Common.{rules}
use Rattle.optext.proofs.writing.reg_b.Goals as goal

pub returns : goal.returns
unfolding reg_b registers
returns c = search rules
