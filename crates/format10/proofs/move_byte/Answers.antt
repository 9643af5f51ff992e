use Rattle.board.proofs.Laws.{did-give}
use Rattle.format10.specs.Format10.{move_byte}
use Rattle.format10.proofs.move_byte.Goals as goal

pub returns-in-Reg : goal.returns-in-Reg
unfolding move_byte
returns-in-Reg c = rw (c.in-Reg.is, c.with_reg.ensures, c.extend.ensures, c.low.ensures) (did-give c.requires)

pub returns-in-Mem : goal.returns-in-Mem
unfolding move_byte
returns-in-Mem c = rw c.in-Mem.is (rw c.in-Mem.is at c.write.ensures)
