use Rattle.std.proofs.Common.{◌-◌}
use Rattle.listjob.proofs.Laws.{Begun}
use Rattle.listjob.proofs.list_all.Given as goal

abbrev pub invariant-loop-next : goal.invariant-loop-next
invariant-loop-next l = Begun l.image l.map l.first l.last l.initial.text l.text l.a l.at

abbrev pub decreases-loop-next : goal.decreases-loop-next
decreases-loop-next l = 65536 - l.a
