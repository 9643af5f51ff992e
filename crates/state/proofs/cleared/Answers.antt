use Rattle.state.specs.State.{cleared}
use Rattle.state.proofs.cleared.Goals as goal

pub returns : goal.returns
unfolding cleared
returns c = rw c.flags_of-flags.ensures
