use Rattle.step.specs.Step.{bus_error}
use Rattle.step.proofs.bus_error.Goals as goal

pub returns : goal.returns
unfolding bus_error
returns c = rw (c.ps.ensures, c.past-t.ensures) at c.trap.ensures
