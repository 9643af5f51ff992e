use Rattle.std.proofs.Common.{◌≡◌, ◌+◌, ◌-◌, length}
use Rattle.job.specs.Job.{marked}
use Rattle.job.proofs.mark_pages.Given as goal

abbrev pub invariant-loop-k : goal.invariant-loop-k
invariant-loop-k l = (length l.map ≡ 256) × (marked l.value l.input (l.n - l.k) (l.from + l.k) l.map ≡ marked l.value l.input l.n l.from l.initial.map)
