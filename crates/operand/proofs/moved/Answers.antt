use Rattle.operand.specs.Operand.{moved}
use Rattle.operand.proofs.moved.Goals as goal

pub returns-in-Reg : goal.returns-in-Reg
unfolding moved
returns-in-Reg c = rw c.in-Reg.is

pub returns-in-Mem : goal.returns-in-Mem
unfolding moved
returns-in-Mem c = rw c.in-Mem.is c.with_reg.ensures
