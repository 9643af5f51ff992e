-- What the exported check leaves: the number that it answers, and the bytes lent for the verdict. Another length than six is refused before all else.
use Rattle.std.specs.Prelude.{ℕ, List}
use Rattle.refusal.specs.Page.{answered, Left, left, call, nothing, first, Told, reading}
use Rattle.answer.specs.Answer.{three_words, answer_why}
use Rattle.job.specs.Job.{why_job}
use Rattle.trace.specs.Trace.{why_trace, verdict_of, VerdictPage, accepted, wrong, missing, extra, verdict_page}

-- the answer's words: the kind, 0 accepted, 1 a wrong field, 2 a missing or an extra step; the step; the field. 0 where there is none
abbrev pub verdict_words : VerdictPage → List ℕ
verdict_words accepted = three_words 0 0 0
verdict_words (wrong step field right) = three_words 1 step field
verdict_words (missing step) = three_words 2 step 0
verdict_words (extra step) = three_words 2 step 0

-- the buffers for the job are the call's own, so nothing but the verdict is lent, and only the job and the trace are refused
abbrev pub check_left : List ℕ → List ℕ → Left VerdictPage (Unit {0})
check_left job t = call (first (why_job job) (why_trace t)) (left (answered (verdict_page (verdict_of job t))) nothing) nothing

abbrev pub verdict_in : VerdictPage → Unit {0} → List ℕ
verdict_in v none = verdict_words v

unfoldable pub check_call : List ℕ → List ℕ → List ℕ → Told (List ℕ)
check_call job t b = reading verdict_in (λ none. b) (call (answer_why b) (check_left job t) nothing)
