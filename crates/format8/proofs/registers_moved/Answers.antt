use Rattle.format8.specs.Format8.{registers_moved}
use Rattle.format8.proofs.registers_moved.Goals as goal

pub returns : goal.returns
unfolding registers_moved
returns c = rw (c.onward-3.ensures, c.onward-2.ensures, c.onward.ensures)
