use Rattle.machine_c.specs.Layout.{refused_run}
use Rattle.machine_c.proofs.layout.refused_run.Goals as goal

pub returns : goal.returns
unfolding refused_run
returns c = rw c.refused_step.ensures
