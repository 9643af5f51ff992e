use native.Mathlib.Omega.{arith}
use Rattle.machine.specs.Run.{blank_noted}
use Rattle.machine.proofs.runs.blank_noted.Goals as goal

pub returns-in-Some : goal.returns-in-Some
unfolding blank_noted
returns-in-Some c = (rw (c.in-Some.is, c.first_kept.ensures), omega arith)

pub returns-in-None : goal.returns-in-None
unfolding blank_noted
returns-in-None c = (rw c.in-None.is, omega arith)
