use Rattle.optext.specs.Line.{registers, reg_a}
use Rattle.std.proofs.Common.{rules}
use Rattle.optext.proofs.writing.reg_a.Goals as goal

pub returns : goal.returns
unfolding reg_a registers
returns c = search rules
