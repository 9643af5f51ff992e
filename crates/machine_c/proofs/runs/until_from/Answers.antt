use mathlib.Core.Path.{refl}
use Rattle.machine_c.specs.Runs.{until_from}
use Rattle.machine_c.proofs.runs.until_from.Goals as goal

pub returns : goal.returns
unfolding until_from
returns c = refl
