use Rattle.std.proofs.Common.{◌≡◌, ◌+◌, ◌-◌, ◌*◌}
use Rattle.job.specs.Job.{words_stored}
use Rattle.job.proofs.store_words.Given as goal

abbrev pub invariant-loop-k : goal.invariant-loop-k
invariant-loop-k l = words_stored l.input (l.n - l.k) (l.from + l.k * 4) l.image ≡ words_stored l.input l.n l.from l.initial.image
