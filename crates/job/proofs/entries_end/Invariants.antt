use Rattle.std.proofs.Common.{◌≡◌, ◌+◌, ◌-◌, ◌*◌, ◌≤◌, length}
use Rattle.wordbytes.specs.Words.{word_at}
use Rattle.job.specs.Job.{entry_size, why_entries, fit_pages, after_section}
use Rattle.job.proofs.entries_end.Given as goal

abbrev pub invariant-loop : goal.invariant-loop
invariant-loop l = (l.at ≤ length l.input) × (l.at + (l.end - l.counter) * entry_size l.s ≡ after_section l.s l.input l.start)
    × (why_entries l.s l.input (l.end - l.counter) l.at l.low l.fitted ≡ why_entries l.s l.input (word_at l.input l.start) (l.start + 2) 0 l.initial.fitted)
    × (fit_pages l.s l.input (l.end - l.counter) l.at l.fitted ≡ fit_pages l.s l.input (word_at l.input l.start) (l.start + 2) l.initial.fitted)
