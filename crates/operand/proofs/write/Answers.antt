use Rattle.operand.proofs.Laws.Operand.{did-in-register, did-in-memory, did-not-left}
use Rattle.operand.proofs.write.Goals as goal

pub returns-in_err-write-in-Mem : goal.returns-in_err-write-in-Mem
returns-in_err-write-in-Mem c = rw c.in-Mem.is (did-not-left _ _ _ _ _ _ _ c.write.ensures c.in_err-write-in-Mem.was c.from_residual.ensures.1)

pub returns-in-Reg : goal.returns-in-Reg
returns-in-Reg c = rw c.in-Reg.is (did-in-register _ _ _ _ c.requires c.with_part.ensures)

pub returns-in_ok-write-in-Mem : goal.returns-in_ok-write-in-Mem
returns-in_ok-write-in-Mem c = rw c.in-Mem.is (did-in-memory _ _ _ _ _ _ _ c.write.ensures c.in_ok-write-in-Mem.was)
