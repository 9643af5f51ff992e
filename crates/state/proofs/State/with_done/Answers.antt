use Rattle.state.specs.State.{with_done}
use Rattle.state.proofs.State.with_done.Goals as goal

pub returns : goal.returns
unfolding with_done
returns c = rw (c.with_flags.ensures, c.with_reg.ensures)
