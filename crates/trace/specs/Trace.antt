-- The trace of a job: after each step from power-up, the bench line's fields from R0 to the mode. What is right, and what another shop's trace is found to be.
use Rattle.std.specs.Prelude.{ℕ, zero, suc, ◌+◌, ◌*◌, ◌%◌, false, cond, List, [], ◌∷◌, ◌++◌, length, eqb, leb, Result}
use Rattle.wordbytes.specs.Words.{word_at, bytes_in}
use Rattle.state.specs.declared.State.{State}
use Rattle.state.specs.State.{mode_number, ps_of, heard}
use Rattle.step.specs.declared.Cause.TheVariants as Cause
use Rattle.step.specs.Step.{After, after}
use Rattle.hexdigits.specs.Over.{in_front_of}
use Rattle.refusal.specs.Numbers.{output_short, trace_cut}
use Rattle.refusal.specs.declared.Refusal.{Refusal}
use Rattle.refusal.specs.Answer.{page_of}
use Rattle.refusal.specs.Page.{Page, answered, Left, left, call, first}
use Rattle.machine.specs.Numbers.{registers_of}
use Rattle.machine.specs.Trail.{trail_of, last_after}
use Rattle.job.specs.Job.{map_of, lines_of, line_words, why_read}
use Rattle.endline.specs.Report.{bench_board}
use Rattle.runjob.specs.Bench.{up_of}
use Rattle.trace.specs.declared.Verdict.{Verdict}
use Rattle.trace.specs.declared.Verdict.TheVariants.{Accepted, Wrong, Missing, Extra}

-- ---- the right trace of a job

-- R0 to R5, SP, PC, PS with bits 15 and 14 clear, as it is formed on a quiet line; the mode
unfoldable pub entry_of : State → List ℕ
entry_of s = registers_of s ++ (ps_of (heard bench_board 0) false s % 16384 ∷ mode_number s.mode ∷ [])

-- one for each step
unfoldable pub entries_of : List After → List (List ℕ)
entries_of [] = []
entries_of (a ∷ rs) = entry_of a.state ∷ entries_of rs

-- the steps over the job's line words, from bench's board after power-up
unfoldable pub steps_of : List ℕ → List After
steps_of input = trail_of bench_board (map_of input) (line_words input) (up_of input).state (up_of input).image

abbrev pub right_trace : List ℕ → List (List ℕ)
right_trace input = entries_of (steps_of input)

-- where they end
abbrev start_of : List ℕ → After
start_of input = after (up_of input).state (up_of input).image Cause.Nothing

unfoldable pub image_after : List ℕ → List ℕ
image_after input = (last_after (start_of input) (steps_of input)).image

-- ---- as bytes: the count, then the fields of each entry, all two bytes, low first

unfoldable pub joined : List (List ℕ) → List ℕ
joined [] = []
joined (e ∷ es) = e ++ joined es

unfoldable pub trace_bytes : List (List ℕ) → List ℕ
trace_bytes es = bytes_in (length es ∷ joined es)

-- ---- a trace that is lent

-- n words from a place on; n entries of ten words
unfoldable pub fields_from : List ℕ → ℕ → ℕ → List ℕ
fields_from t at zero = []
fields_from t at (suc n) = word_at t at ∷ fields_from t (at + 2) n

unfoldable pub entries_from : List ℕ → ℕ → ℕ → List (List ℕ)
entries_from t at zero = []
entries_from t at (suc n) = fields_from t at 10 ∷ entries_from t (at + 20) n

-- the entries that it gives, after its count
unfoldable pub told_in : List ℕ → List (List ℕ)
told_in t = entries_from t 2 (word_at t 0)

-- 29: it is cut inside its count; inside a state, or bytes are left over
unfoldable pub why_trace : List ℕ → ℕ
why_trace t =
    first (cond (leb 2 (length t)) 0 trace_cut)
    (cond (eqb (length t) (2 + word_at t 0 * 20)) 0 trace_cut)

-- ---- what it is found to be

-- the first of two
abbrev pub or_else : Verdict → Verdict → Verdict
or_else Accepted later = later
or_else (Wrong step field right) later = Wrong step field right
or_else (Missing step) later = Missing step
or_else (Extra step) later = Extra step

-- a step's first wrong field from field k on, and what is right there
unfoldable pub first_wrong : ℕ → ℕ → List ℕ → List ℕ → Verdict
first_wrong step k [] told = Accepted
first_wrong step k (x ∷ right) [] = Accepted
first_wrong step k (x ∷ right) (y ∷ told) = cond (eqb x y) (first_wrong step (k + 1) right told) (Wrong step k x)

-- from a step on, the right entries and those that the trace gives: the first wrong step, with its first wrong field; where one list
-- is shorter, the first missing or extra step
unfoldable pub compared : ℕ → List (List ℕ) → List (List ℕ) → Verdict
compared step [] [] = Accepted
compared step [] (e ∷ told) = Extra step
compared step (r ∷ right) [] = Missing step
compared step (r ∷ right) (e ∷ told) = or_else (first_wrong step 0 r e) (compared (step + 1) right told)

abbrev pub verdict_of : List ℕ → List ℕ → Verdict
verdict_of input t = compared 0 (right_trace input) (told_in t)

-- ---- the check

-- its answer: accepted; the first wrong step with its first wrong field and what is right there; the first step that is missing; the
-- first that is one too many
pub data VerdictPage : Type 0 where
  accepted : VerdictPage
  wrong : ℕ → ℕ → ℕ → VerdictPage
  missing : ℕ → VerdictPage
  extra : ℕ → VerdictPage

abbrev pub verdict_page : Verdict → VerdictPage
verdict_page Accepted = accepted
verdict_page (Wrong step field right) = wrong step field right
verdict_page (Missing step) = missing step
verdict_page (Extra step) = extra step

abbrev pub Checked : Type 0
Checked = Result Verdict Refusal

abbrev pub checked_page : Checked → Page VerdictPage
checked_page = page_of verdict_page

-- the job's own refusal first, then the trace's
abbrev pub why_check : List ℕ → List ℕ → ℕ → ℕ → ℕ → ℕ
why_check input t image map lines = first (why_read image map lines input) (why_trace t)

-- the image after the job's last step, the job's map and its line words
abbrev pub buffers_after : List ℕ → List ℕ × List ℕ × List ℕ
buffers_after input = (image_after input, map_of input, lines_of input)

unfoldable pub check_of : List ℕ → List ℕ → List ℕ → List ℕ → List ℕ → Left VerdictPage (List ℕ × List ℕ × List ℕ)
check_of input t image map lines =
    call (why_check input t (length image) (length map) (length lines))
    (left (answered (verdict_page (verdict_of input t))) (buffers_after input))
    (image, map, lines)

-- ---- the trace made

abbrev pub Made : Type 0
Made = Result ℕ Refusal

abbrev pub made_page : Made → Page ℕ
made_page = page_of (λ n. n)

-- 10: fewer bytes are lent than the longest trace has, of 4,096 entries
abbrev pub longest_trace : ℕ
longest_trace = 81922

abbrev pub why_make : List ℕ → ℕ → ℕ → ℕ → ℕ → ℕ
why_make input out image map lines = first (why_read image map lines input) (cond (leb longest_trace out) 0 output_short)

-- the right trace goes to the front of the lent bytes, the rest of them stays; the number of its bytes is answered
abbrev pub made_of : List ℕ → List ℕ → Left ℕ (List ℕ × List ℕ × List ℕ × List ℕ)
made_of input out =
    let t = trace_bytes (right_trace input) in
    left (answered (length t)) (in_front_of t out, image_after input, map_of input, lines_of input)

unfoldable pub make_of : List ℕ → List ℕ → List ℕ → List ℕ → List ℕ → Left ℕ (List ℕ × List ℕ × List ℕ × List ℕ)
make_of input out image map lines = call (why_make input (length out) (length image) (length map) (length lines)) (made_of input out) (out, image, map, lines)
