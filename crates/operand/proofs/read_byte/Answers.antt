use Rattle.board.proofs.Laws.{got-give}
use Rattle.operand.specs.Operand.{read_of}
use Rattle.operand.proofs.read_byte.Goals as goal

pub returns-in-Reg : goal.returns-in-Reg
unfolding read_of
returns-in-Reg c = rw c.in-Reg.is
    (record { got = got-give (rw c.low.ensures) })

pub returns-in-Mem : goal.returns-in-Mem
unfolding read_of
returns-in-Mem c = rw c.in-Mem.is
    (record { got = c.load_byte.ensures.got })
