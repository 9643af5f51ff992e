use Rattle.formats2to4.specs.Format2.{rtn}
use Rattle.formats2to4.proofs.format2.rtn.Goals as goal

pub returns : goal.returns
unfolding rtn
returns c = rw (c.with_pc.ensures, c.reg.ensures) at c.pop_reg.ensures
