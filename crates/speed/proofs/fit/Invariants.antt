use Rattle.std.proofs.Common.{length, ◌-◌}
use Rattle.speed.proofs.fit.Given as goal

abbrev pub decreases-loop-i : goal.decreases-loop-i
decreases-loop-i l = length l.pages - l.i
