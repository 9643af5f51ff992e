use Rattle.state.specs.State.{with_pair}
use Rattle.state.proofs.State.with_pair.Goals as goal

pub returns : goal.returns
unfolding with_pair
returns c = rw (c.with_flags.ensures, c.with_reg-2.ensures, c.next.ensures, c.with_reg.ensures)
