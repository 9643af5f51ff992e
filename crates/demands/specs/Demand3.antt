-- DEMAND 3. A BLANK IS NOT A ZERO. Whatever calls answer and leave, as their contracts promise.
use Rattle.std.specs.Prelude.{ℕ, true, false, List, ◌≡◌, length, Result}
use Rattle.board.specs.Work.{Agree, Blind}
use Rattle.state.specs.declared.State.{State}
use Rattle.state.specs.declared.Settings.{Settings}
use Rattle.state.specs.State.{heard}
use Rattle.step.specs.Told.{work_answered}
use Rattle.refusal.specs.Page.{answered, left, told}
use Rattle.machine.specs.Entry.{Powered, Stepped, Finished, powered_page, power_up_page, stepped_page, step_page, finished_page, run_page}
use Rattle.machine.specs.Until.{Stopped, stopped_page, run_until_page}
use Rattle.machine.specs.declared.Until.{Until}
use Rattle.machine.specs.Numbers.{TurnPage, RanPage}
use Rattle.machine.specs.Same.{run_same_page}
use Rattle.machine_c.specs.Layout.{state_from, settings_from}
use Rattle.machine_c.specs.Calls.{power_up_call, step_call, run_call}
use Rattle.machine_c.specs.Runs.{run_same_call, run_until_call}
use Rattle.job.specs.Job.{job_page, why_read, job_of}
use Rattle.job_c.specs.Calls.{read_call}
use Rattle.benchline.specs.Line.{printed_page}
use Rattle.runjob.specs.Bench.{job_run, bench_why, bench_of}
use Rattle.listjob.specs.Stretch.{list_why, list_of}
use Rattle.refusal.specs.declared.Refusal.{Refusal}
use Rattle.listing.specs.declared.Listed.{Listed}
use Rattle.listing.specs.Calls.{listed_page, line_call}
use Rattle.listing_c.specs.Calls.{list_call}
use Rattle.stepline.specs.declared.Shown.{Shown}
use Rattle.stepline.specs.Shown.{shown_page, show_of}
use Rattle.trace.specs.Trace.{Checked, Made, checked_page, why_check, check_of, made_page, why_make, make_of}
use Rattle.demands.specs.Terms.{Blanked, Fitted, Counted, StepBytes, TallyBytes}

-- ---- "What stands at unfitted addresses can influence nothing: two images that agree on fitted bytes give equal answers, and unfitted bytes come
-- back as lent." The same answer, fitted bytes that agree again, and every byte that can't be written, of an unfitted or a read-only page, as lent

module _ (settings : Settings) (map m n : List ℕ) (l : length m ≡ length n) (g : Agree map m n) where
  abbrev pub PowerUpBlind : Type 0
  PowerUpBlind = (r q : Powered) (m' n' : List ℕ) → left (powered_page r) m' ≡ power_up_page settings m map → left (powered_page q) n' ≡ power_up_page settings n map → Blind map m n r q m' n'

  abbrev pub StepBlind : Type 0
  StepBlind = (line : ℕ) (s : State) (r q : Stepped) (m' n' : List ℕ)
      → left (stepped_page r) m' ≡ step_page settings m map line s → left (stepped_page q) n' ≡ step_page settings n map line s → Blind map m n r q m' n'

  abbrev pub RunBlind : Type 0
  RunBlind = (lines : List ℕ) (s : State) (r q : Finished) (m' n' : List ℕ)
      → left (finished_page r) m' ≡ run_page settings m map lines s → left (finished_page q) n' ≡ run_page settings n map lines s → Blind map m n r q m' n'

  abbrev pub RunSameBlind : Type 0
  RunSameBlind = (line steps : ℕ) (s : State) (r q : Finished) (m' n' : List ℕ)
      → left (finished_page r) m' ≡ run_same_page settings m map line steps s → left (finished_page q) n' ≡ run_same_page settings n map line steps s → Blind map m n r q m' n'

  abbrev pub RunUntilBlind : Type 0
  RunUntilBlind = (lines : List ℕ) (u : Until) (s : State) (r q : Stopped) (m' n' : List ℕ)
      → left (stopped_page r) m' ≡ run_until_page settings m map lines u s → left (stopped_page q) n' ≡ run_until_page settings n map lines u s → Blind map m n r q m' n'

  -- a step and its line: the text too is the same
  abbrev pub WriteStepBlind : Type 0
  WriteStepBlind = (line number : ℕ) (s : State) (text : List ℕ) (r q : Result Shown Refusal) (m' n' text₁ text₂ : List ℕ)
      → left (shown_page r) (m', text₁) ≡ show_of settings m map line number s text → left (shown_page q) (n', text₂) ≡ show_of settings n map line number s text
      → Blind {A = Result Shown Refusal × List ℕ} map m n (r, text₁) (q, text₂) m' n'

-- the same for C: the number, the state's bytes, the tally's; w are the settings' bytes
module _ (w map m n : List ℕ) (l : length m ≡ length n) (g : Agree map m n) where
  abbrev pub Wd16PowerUpBlind : Type 0
  Wd16PowerUpBlind = (b : List ℕ) (k j : ℕ) (b₁ b₂ m' n' : List ℕ) → told k (b₁, m') ≡ power_up_call b m map w → told j (b₂, n') ≡ power_up_call b n map w
      → Blind {A = ℕ × List ℕ} map m n (k, b₁) (j, b₂) m' n'

  abbrev pub Wd16StepBlind : Type 0
  Wd16StepBlind = (b : List ℕ) (line k j : ℕ) (b₁ b₂ m' n' : List ℕ) → told k (b₁, m') ≡ step_call b m map w line → told j (b₂, n') ≡ step_call b n map w line
      → Blind {A = ℕ × List ℕ} map m n (k, b₁) (j, b₂) m' n'

  abbrev pub Wd16RunBlind : Type 0
  Wd16RunBlind = (b t lines : List ℕ) (k j : ℕ) (b₁ b₂ t₁ t₂ m' n' : List ℕ) → told k (b₁, t₁, m') ≡ run_call b t m map w lines → told j (b₂, t₂, n') ≡ run_call b t n map w lines
      → Blind {A = ℕ × List ℕ × List ℕ} map m n (k, b₁, t₁) (j, b₂, t₂) m' n'

  abbrev pub Wd16RunSameBlind : Type 0
  Wd16RunSameBlind = (b t : List ℕ) (line steps k j : ℕ) (b₁ b₂ t₁ t₂ m' n' : List ℕ) → told k (b₁, t₁, m') ≡ run_same_call b t m map w line steps → told j (b₂, t₂, n') ≡ run_same_call b t n map w line steps
      → Blind {A = ℕ × List ℕ × List ℕ} map m n (k, b₁, t₁) (j, b₂, t₂) m' n'

  abbrev pub Wd16RunUntilBlind : Type 0
  Wd16RunUntilBlind = (b t lines : List ℕ) (asked k j : ℕ) (b₁ b₂ t₁ t₂ m' n' : List ℕ) → told k (b₁, t₁, m') ≡ run_until_call b t m map w lines asked → told j (b₂, t₂, n') ≡ run_until_call b t n map w lines asked
      → Blind {A = ℕ × List ℕ × List ℕ} map m n (k, b₁, t₁) (j, b₂, t₂) m' n'

-- a line of a listing: the same answer, and the same text
abbrev pub ListLineBlind : Type 0
ListLineBlind = (map m n : List ℕ) → length m ≡ length n → Agree map m n → (a last : ℕ) (text : List ℕ) (r q : Result Listed Refusal) (text₁ text₂ : List ℕ)
    → left (listed_page r) text₁ ≡ line_call m map a last text → left (listed_page q) text₂ ≡ line_call n map a last text → (r ≡ q) × (text₁ ≡ text₂)

-- for C: the same number, text and answer
abbrev pub Wd16ListLineBlind : Type 0
Wd16ListLineBlind = (map m n : List ℕ) → length m ≡ length n → Agree map m n → (x last : ℕ) (text a : List ℕ) (k j : ℕ) (text₁ text₂ a₁ a₂ : List ℕ)
    → told k (text₁, a₁) ≡ list_call m map x last text a → told j (text₂, a₂) ≡ list_call n map x last text a → (k ≡ j) × (text₁ ≡ text₂) × (a₁ ≡ a₂)

-- ---- A JOB FILLS the lent image, the map and the line words from its own bytes, and a run, a listing and a trace are of a job: whatever stands
-- in them before, the answer is the same, and where nothing is refused, so is what is left in them

module _ (input i₁ i₂ m₁ m₂ l₁ l₂ : List ℕ) (hi : length i₁ ≡ length i₂) (hm : length m₁ ≡ length m₂) (hl : length l₁ ≡ length l₂) where
  abbrev pub JobBlind : Type 0
  JobBlind = (r q : Result ℕ Refusal) (i₁' m₁' l₁' i₂' m₂' l₂' : List ℕ)
      → left (job_page r) (i₁', m₁', l₁') ≡ job_of input i₁ m₁ l₁ → left (job_page q) (i₂', m₂', l₂') ≡ job_of input i₂ m₂ l₂
      → (r ≡ q) × (why_read (length i₁) (length m₁) (length l₁) input ≡ 0 → (i₁' ≡ i₂') × (m₁' ≡ m₂') × (l₁' ≡ l₂'))

  -- for C: the same number and answer
  abbrev pub Wd16ReadJobBlind : Type 0
  Wd16ReadJobBlind = (a : List ℕ) (k j : ℕ) (i₁' m₁' l₁' a₁ i₂' m₂' l₂' a₂ : List ℕ)
      → told k (i₁', m₁', l₁', a₁) ≡ read_call input i₁ m₁ l₁ a → told j (i₂', m₂', l₂', a₂) ≡ read_call input i₂ m₂ l₂ a
      → (k ≡ j) × (a₁ ≡ a₂) × (k ≡ 0 → (i₁' ≡ i₂') × (m₁' ≡ m₂') × (l₁' ≡ l₂'))

  abbrev pub JobRunBlind : Type 0
  JobRunBlind = (r q : Finished) (i₁' m₁' l₁' i₂' m₂' l₂' : List ℕ)
      → left (finished_page r) (i₁', m₁', l₁') ≡ job_run input i₁ m₁ l₁ → left (finished_page q) (i₂', m₂', l₂') ≡ job_run input i₂ m₂ l₂
      → (r ≡ q) × (why_read (length i₁) (length m₁) (length l₁) input ≡ 0 → (i₁' ≡ i₂') × (m₁' ≡ m₂') × (l₁' ≡ l₂'))

  -- of bench's line and of a listing the text too is the same
  abbrev pub BenchBlind : Type 0
  BenchBlind = (text : List ℕ) (r q : Result ℕ Refusal) (text₁ text₂ i₁' m₁' l₁' i₂' m₂' l₂' : List ℕ)
      → left (printed_page r) (text₁, i₁', m₁', l₁') ≡ bench_of input text i₁ m₁ l₁ → left (printed_page q) (text₂, i₂', m₂', l₂') ≡ bench_of input text i₂ m₂ l₂
      → (r ≡ q) × (text₁ ≡ text₂) × (bench_why input text i₁ m₁ l₁ ≡ 0 → (i₁' ≡ i₂') × (m₁' ≡ m₂') × (l₁' ≡ l₂'))

  abbrev pub ListBlind : Type 0
  ListBlind = (text : List ℕ) (r q : Result ℕ Refusal) (text₁ text₂ i₁' m₁' l₁' i₂' m₂' l₂' : List ℕ)
      → left (printed_page r) (text₁, i₁', m₁', l₁') ≡ list_of input text i₁ m₁ l₁ → left (printed_page q) (text₂, i₂', m₂', l₂') ≡ list_of input text i₂ m₂ l₂
      → (r ≡ q) × (text₁ ≡ text₂) × (list_why input (length text) (length i₁) (length m₁) (length l₁) ≡ 0 → (i₁' ≡ i₂') × (m₁' ≡ m₂') × (l₁' ≡ l₂'))

  abbrev pub CheckBlind : Type 0
  CheckBlind = (t : List ℕ) (r q : Checked) (i₁' m₁' l₁' i₂' m₂' l₂' : List ℕ)
      → left (checked_page r) (i₁', m₁', l₁') ≡ check_of input t i₁ m₁ l₁ → left (checked_page q) (i₂', m₂', l₂') ≡ check_of input t i₂ m₂ l₂
      → (r ≡ q) × (why_check input t (length i₁) (length m₁) (length l₁) ≡ 0 → (i₁' ≡ i₂') × (m₁' ≡ m₂') × (l₁' ≡ l₂'))

  abbrev pub MakeBlind : Type 0
  MakeBlind = (out : List ℕ) (r q : Made) (out₁ out₂ i₁' m₁' l₁' i₂' m₂' l₂' : List ℕ)
      → left (made_page r) (out₁, i₁', m₁', l₁') ≡ make_of input out i₁ m₁ l₁ → left (made_page q) (out₂, i₂', m₂', l₂') ≡ make_of input out i₂ m₂ l₂
      → (r ≡ q) × (out₁ ≡ out₂) × (why_make input (length out) (length i₁) (length m₁) (length l₁) ≡ 0 → (i₁' ≡ i₂') × (m₁' ≡ m₂') × (l₁' ≡ l₂'))

-- ---- "A step that reaches one is a bus error or a lock-up, never a value," from the accesses that the step's work makes, in order, on the map and
-- the image (`accesses`): a read is answered where its page is fitted, a write where its page is fitted and not read-only

-- A STEP OF WHICH AN ACCESS IS NOT ANSWERED
abbrev pub StepBlanked : Type 0
StepBlanked = (settings : Settings) (m map : List ℕ) (line : ℕ) (s : State) (r : Stepped) (m' : List ℕ) (p : TurnPage) → left (stepped_page r) m' ≡ step_page settings m map line s → stepped_page r ≡ answered p
    → work_answered map (heard settings line) s m ≡ false → Blanked map (heard settings line) s m p m'

-- and one of which every access is
abbrev pub StepFitted : Type 0
StepFitted = (settings : Settings) (m map : List ℕ) (line : ℕ) (s : State) (r : Stepped) (m' : List ℕ) (p : TurnPage) → left (stepped_page r) m' ≡ step_page settings m map line s → stepped_page r ≡ answered p
    → work_answered map (heard settings line) s m ≡ true → Fitted map (heard settings line) s m p m'

-- for C: b are the state's bytes, w the settings'
abbrev pub Wd16StepBlanked : Type 0
Wd16StepBlanked = (b m map w : List ℕ) (line : ℕ) (b' m' : List ℕ) → told 0 (b', m') ≡ step_call b m map w line
    → work_answered map (heard (settings_from w) line) (state_from b) m ≡ false → StepBytes b' (λ p. Blanked map (heard (settings_from w) line) (state_from b) m p m')

abbrev pub Wd16StepFitted : Type 0
Wd16StepFitted = (b m map w : List ℕ) (line : ℕ) (b' m' : List ℕ) → told 0 (b', m') ≡ step_call b m map w line
    → work_answered map (heard (settings_from w) line) (state_from b) m ≡ true → StepBytes b' (λ p. Fitted map (heard (settings_from w) line) (state_from b) m p m')

-- ---- "and is counted."

-- A RUN'S COUNT OF BLANKS, and the first of them
abbrev pub RunCounted : Type 0
RunCounted = (settings : Settings) (m map lines : List ℕ) (s : State) (r : Finished) (m' : List ℕ) (p : RanPage)
    → left (finished_page r) m' ≡ run_page settings m map lines s → finished_page r ≡ answered p
    → Counted settings map lines s m p.blanks p.first

-- for C: t' are the tally's bytes
abbrev pub Wd16RunCounted : Type 0
Wd16RunCounted = (b t m map w lines b' t' m' : List ℕ) → told 0 (b', t', m') ≡ run_call b t m map w lines
    → TallyBytes t' (λ blanks place. Counted (settings_from w) map lines (state_from b) m blanks place)
