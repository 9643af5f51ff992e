use Rattle.std.proofs.Common.{◌≡◌, ◌≤◌, length, drop}
use Rattle.job.specs.Job.{sections, why_sections, why_job}
use Rattle.job.proofs.first_refusal.Given as goal

abbrev pub invariant-loop-s : goal.invariant-loop-s
invariant-loop-s l = (l.at ≤ length l.input) × (why_sections (drop l.s-index sections) l.input l.at l.fitted ≡ why_job l.input)
