use Rattle.std.proofs.Common.{length, ◌-◌}
use Rattle.speed.proofs.sum.Given as goal

abbrev pub decreases-loop-i : goal.decreases-loop-i
decreases-loop-i l = length l.image - l.i
