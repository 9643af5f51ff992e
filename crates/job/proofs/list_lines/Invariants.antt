use Rattle.std.proofs.Common.{◌≡◌, ◌+◌, ◌-◌, ◌*◌}
use Rattle.job.specs.Job.{listed}
use Rattle.job.proofs.list_lines.Given as goal

abbrev pub invariant-loop-k : goal.invariant-loop-k
invariant-loop-k l = listed l.input (l.n - l.k) (l.from + l.k * 2) l.k l.lines ≡ listed l.input l.n l.from 0 l.initial.lines
