use Rattle.format8.specs.Format8.{onward}
use Rattle.format8.proofs.onward.Goals as goal

pub returns : goal.returns
unfolding onward
returns c = rw (← c.reg.ensures, ← c.plus.ensures) c.with_reg.ensures
