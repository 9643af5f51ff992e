use Rattle.std.proofs.Common.{◌-◌}
use Rattle.speed.proofs.repeat.Given as goal

abbrev pub decreases-loop-i : goal.decreases-loop-i
decreases-loop-i g l = l.runs - l.i
