use Rattle.state.specs.State.{with_status}
use Rattle.state.proofs.State.with_status.Goals as goal

pub returns : goal.returns
unfolding with_status
returns c = rw (c.enable_of.ensures, c.flags_of-self.ensures)
