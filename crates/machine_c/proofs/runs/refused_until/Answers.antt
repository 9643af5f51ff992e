use Rattle.machine_c.specs.Runs.{refused_until}
use Rattle.machine_c.proofs.runs.refused_until.Goals as goal

pub returns : goal.returns
unfolding refused_until
returns c = rw c.refused_step.ensures
