-- DEMAND 3 FOR THE OTHER CALLS THAT MAKE STEPS: a run over one line word, a run until something happens, a job's run, and a step with its line. Whatever
-- calls answer and leave, as their contracts promise.
use Rattle.std.specs.Prelude.{ℕ, true, false, List, ◌≡◌, take, replicate, Result}
use Rattle.wordbytes.specs.Words.{word_at}
use Rattle.state.specs.declared.State.{State}
use Rattle.state.specs.declared.Settings.{Settings}
use Rattle.state.specs.State.{heard}
use Rattle.step.specs.Told.{work_answered}
use Rattle.refusal.specs.Page.{answered, left, told}
use Rattle.machine.specs.Entry.{Finished, finished_page}
use Rattle.machine.specs.Until.{Stopped, StopPage, stopped_page, run_until_page}
use Rattle.machine.specs.declared.Until.{Until}
use Rattle.machine.specs.Numbers.{RanPage}
use Rattle.machine.specs.Same.{run_same_page}
use Rattle.machine_c.specs.Layout.{state_from, settings_from}
use Rattle.machine_c.specs.Runs.{run_same_call, run_until_call}
use Rattle.job.specs.Job.{map_of, line_words}
use Rattle.endline.specs.Report.{bench_board}
use Rattle.runjob.specs.Bench.{up_of, job_run}
use Rattle.refusal.specs.declared.Refusal.{Refusal}
use Rattle.stepline.specs.declared.Shown.{Shown}
use Rattle.stepline.specs.Shown.{ShownPage, shown_page, show_of}
use Rattle.demands.specs.Terms.{Blanked, Fitted, Counted, TallyBytes}

-- ---- "A step that reaches one is a bus error or a lock-up, never a value"

-- A STEP WITH ITS LINE, of which an access is not answered
abbrev pub WriteStepBlanked : Type 0
WriteStepBlanked = (settings : Settings) (m map : List ℕ) (line number : ℕ) (s : State) (text : List ℕ) (r : Result Shown Refusal) (m' text' : List ℕ) (p : ShownPage)
    → left (shown_page r) (m', text') ≡ show_of settings m map line number s text → shown_page r ≡ answered p
    → work_answered map (heard settings line) s m ≡ false → Blanked map (heard settings line) s m p.turn m'

-- and one of which every access is
abbrev pub WriteStepFitted : Type 0
WriteStepFitted = (settings : Settings) (m map : List ℕ) (line number : ℕ) (s : State) (text : List ℕ) (r : Result Shown Refusal) (m' text' : List ℕ) (p : ShownPage)
    → left (shown_page r) (m', text') ≡ show_of settings m map line number s text → shown_page r ≡ answered p
    → work_answered map (heard settings line) s m ≡ true → Fitted map (heard settings line) s m p.turn m'

-- ---- "and is counted."

-- over one line word: the line words are n times that one
abbrev pub RunSameCounted : Type 0
RunSameCounted = (settings : Settings) (m map : List ℕ) (line n : ℕ) (s : State) (r : Finished) (m' : List ℕ) (p : RanPage)
    → left (finished_page r) m' ≡ run_same_page settings m map line n s → finished_page r ≡ answered p
    → Counted settings map (replicate n line) s m p.blanks p.first

-- until something happens: the line words are those of the steps that it made
abbrev pub RunUntilCounted : Type 0
RunUntilCounted = (settings : Settings) (m map lines : List ℕ) (u : Until) (s : State) (r : Stopped) (m' : List ℕ) (p : StopPage)
    → left (stopped_page r) m' ≡ run_until_page settings m map lines u s → stopped_page r ≡ answered p
    → Counted settings map (take p.steps lines) s m p.blanks p.first

-- a job's run: over its map and its line words, from where its power-up ends
abbrev pub JobRunCounted : Type 0
JobRunCounted = (input image map lines : List ℕ) (r : Finished) (image' map' lines' : List ℕ) (p : RanPage)
    → left (finished_page r) (image', map', lines') ≡ job_run input image map lines → finished_page r ≡ answered p
    → (let up = up_of input in
    Counted bench_board (map_of input) (line_words input) up.state up.image p.blanks p.first)

-- for C: t' are the tally's bytes; until something happens a word with the number of steps stands behind them
abbrev pub Wd16RunSameCounted : Type 0
Wd16RunSameCounted = (b t m map w : List ℕ) (line n : ℕ) (b' t' m' : List ℕ) → told 0 (b', t', m') ≡ run_same_call b t m map w line n
    → TallyBytes t' (λ blanks place. Counted (settings_from w) map (replicate n line) (state_from b) m blanks place)

abbrev pub Wd16RunUntilCounted : Type 0
Wd16RunUntilCounted = (b t m map w lines : List ℕ) (asked : ℕ) (b' t' m' : List ℕ) → told 0 (b', t', m') ≡ run_until_call b t m map w lines asked
    → TallyBytes (take 6 t') (λ blanks place. Counted (settings_from w) map (take (word_at t' 6) lines) (state_from b) m blanks place)
