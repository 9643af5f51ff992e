use Rattle.machine.specs.Counted.{tally_joined}
use Rattle.machine.proofs.same.joined.Goals as goal

pub returns : goal.returns
unfolding tally_joined
returns c = rw (c.or_first.ensures, c.moved.ensures)
