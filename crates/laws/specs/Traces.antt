-- WISH 8. CHECKING ANOTHER SHOP'S TRACE, for C: "Accept it exactly when it has one entry for each step from power-up and every field is
-- the manual's; else tell the first wrong step and its first wrong field. A trace shorter or longer than the job is wrong at the first
-- missing or extra step, no field." Whatever a call of `wd16_check_trace` leaves in the six bytes of its verdict.
-- (Of `check`: trace Right `accepted-only`, `accepted-if`, First `verdict-says`.)
use Rattle.std.specs.Prelude.{ℕ, ◌<◌, List, ◌≡◌, length, Ok}
use Rattle.wordbytes.specs.Words.{byte_at, word_at}
use Rattle.job.specs.Job.{why_job}
use Rattle.trace.specs.declared.Verdict.{Verdict}
use Rattle.trace.specs.Trace.{right_trace, trace_bytes, told_in, checked_page, check_of}
use Rattle.trace.specs.First.{AtStep, EndsAt, Says}
use Rattle.refusal.specs.Page.{left, told}
use Rattle.trace_c.specs.Calls.{check_call}

-- ---- accepted exactly when it is the manual's trace: the answer is 0 and the verdict's first word is 0

abbrev pub accepts : ℕ → List ℕ → Type 0
accepts number verdict = (number ≡ 0) × (word_at verdict 0 ≡ 0)

abbrev pub Wd16Accepts : Type 0
Wd16Accepts = (job t b : List ℕ) (number : ℕ) (b' : List ℕ) → told number b' ≡ check_call job t b
    → why_job job ≡ 0 → length b ≡ 6 → ((i : ℕ) → byte_at t i < 256)
    → (accepts number b' → t ≡ trace_bytes (right_trace job)) × (t ≡ trace_bytes (right_trace job) → accepts number b')

-- ---- else its first fault: `right` are the entries that the manual gives, `given` those of the trace

pub data Tells (right given : List (List ℕ)) (verdict : List ℕ) : Type 0 where
  -- word 0 is 0: they are the same
  accepted : word_at verdict 0 ≡ 0 → right ≡ given → Tells right given verdict
  -- it is 1: word 1 is the first wrong step, word 2 its first wrong field, where x should stand
  wrong : (x : ℕ) → word_at verdict 0 ≡ 1 → AtStep right given (word_at verdict 2) (word_at verdict 4) x → Tells right given verdict
  -- it is 2: word 1 is the first missing step, or the first extra one; all before it are right, and no field is told
  missing : word_at verdict 0 ≡ 2 → EndsAt given right (word_at verdict 2) → word_at verdict 4 ≡ 0 → Tells right given verdict
  extra : word_at verdict 0 ≡ 2 → EndsAt right given (word_at verdict 2) → word_at verdict 4 ≡ 0 → Tells right given verdict

-- A call that answers 0 tells it, whatever the job and the trace. (Where it doesn't, the number is a refusal's and the bytes are as lent:
-- demands Demand1.)
abbrev pub Wd16Tells : Type 0
Wd16Tells = (job t b b' : List ℕ) → told 0 b' ≡ check_call job t b → Tells (right_trace job) (told_in t) b'

-- ---- the same of a call of `check` that answers a verdict: from step 0 on it says which entries differ first, and where (trace First `Says`)
abbrev pub CheckTells : Type 0
CheckTells = (job t image map lines : List ℕ) (v : Verdict) (image' map' lines' : List ℕ) → left (checked_page (Ok v)) (image', map', lines') ≡ check_of job t image map lines
    → Says 0 (right_trace job) (told_in t) v
