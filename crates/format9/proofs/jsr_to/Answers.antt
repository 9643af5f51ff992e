use Rattle.format9.specs.Format9.{jsr_to}
use Rattle.format9.proofs.jsr_to.Goals as goal

pub returns-in-Reg : goal.returns-in-Reg
unfolding jsr_to
returns-in-Reg c = rw (c.in-Reg.is, c.apart.ensures) c.trap_now.ensures

pub returns-in-Mem : goal.returns-in-Mem
unfolding jsr_to
returns-in-Mem c = rw c.in-Mem.is c.jsr_at.ensures
