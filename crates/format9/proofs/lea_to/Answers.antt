use Rattle.board.proofs.Laws.{did-give}
use Rattle.format9.specs.Format9.{lea_to}
use Rattle.format9.proofs.lea_to.Goals as goal

pub returns-in-Reg : goal.returns-in-Reg
unfolding lea_to
returns-in-Reg c = rw c.in-Reg.is c.trap_now.ensures

pub returns-in-Mem : goal.returns-in-Mem
unfolding lea_to
returns-in-Mem c = rw (c.in-Mem.is, c.with_reg.ensures) (did-give c.requires)
