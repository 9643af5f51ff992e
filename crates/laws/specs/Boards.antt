-- THE RUNS THAT A BOARD MAKES. A run over one line word is the run over as many such words, and two of them one after the other are the
-- run over all. A run that may end early is the run over the line words of the steps that it made: no step before the last ends it, and
-- the last does unless the line words are over.
use Rattle.std.specs.Prelude.{ℕ, ◌+◌, ◌<◌, ◌≤◌, Bool, true, false, List, ◌≡◌, length, take, get_or, replicate}
use Rattle.state.specs.declared.State.{State}
use Rattle.state.specs.declared.Settings.{Settings}
use Rattle.step.specs.declared.Cause.TheVariants as Cause
use Rattle.step.specs.Step.{After, after, cause_number}
use Rattle.wordbytes.specs.Words.{word_at}
use Rattle.refusal.specs.Page.{answered, left, told}
use Rattle.machine.specs.Entry.{Finished, step_why, run_why, finished_page, run_page}
use Rattle.machine.specs.Until.{Stopped, ends, StopPage, stopped_page, run_until_page}
use Rattle.machine.specs.declared.Until.{Until}
use Rattle.machine.specs.Run.{last_cause}
use Rattle.machine.specs.Trail.{trail_of}
use Rattle.machine.specs.Same.{run_same_page}
use Rattle.machine_c.specs.Layout.{state_bytes, state_from, settings_from, refused_step}
use Rattle.machine_c.specs.Calls.{run_call}
use Rattle.machine_c.specs.Runs.{until_from, stop_bytes, run_same_call, run_until_call}
use Rattle.laws.specs.One.{uncaused}
use Rattle.laws.specs.Halves.{state_left, Joined, CallsJoined}
use Rattle.refusal.specs.Refusal.{most_line_words}

-- ---- OVER ONE LINE WORD

-- up to 4,096 steps it is the run over as many such line words
abbrev pub SameRun : Type 0
SameRun = (settings : Settings) (map : List ℕ) (line n : ℕ) (s : State) (m : List ℕ) → step_why settings m map line ≡ 0 → n ≤ most_line_words
    → run_same_page settings m map line n s ≡ run_page settings m map (replicate n line) s

-- and n steps, then k, are n + k steps: the blanks add up, and the first is the first's, or else the second's moved on by n
abbrev pub SameJoined : Type 0
SameJoined = (settings : Settings) (map : List ℕ) (line n k : ℕ) (s : State) (m : List ℕ) → step_why settings m map line ≡ 0
    → (r q p : Finished) (m₁ m₂ m₃ : List ℕ)
    → left (finished_page r) m₁ ≡ run_same_page settings m map line n s
    → left (finished_page q) m₂ ≡ run_same_page settings m₁ map line k (state_left r s)
    → left (finished_page p) m₃ ≡ run_same_page settings m map line (n + k) s
    → Joined n r q p m₂ m₃

-- ---- UNTIL SOMETHING HAPPENS

-- is a run to end after this step?
abbrev pub ends_after : Until → After → Bool
ends_after u a = ends u a.cause a.state.mode

-- what is answered, and the image after it; the steps are those of the run over all line words
pub record Early (settings : Settings) (map lines : List ℕ) (u : Until) (s : State) (m : List ℕ) (p : StopPage) (m₁ : List ℕ) : Type 0 where
  pub within : p.steps ≤ length lines
  pub some : 0 < length lines → 1 ≤ p.steps
  -- it is the run over the line words of its steps
  pub run : (q : Finished) (m₂ : List ℕ) → left (finished_page q) m₂ ≡ run_page settings m map (take p.steps lines) s
      → (finished_page q ≡ answered (record { state = p.turn.state; blanks = p.blanks; first = p.first })) × (m₂ ≡ m₁)
  -- and tells the cause of the last
  pub cause : p.turn.cause ≡ cause_number (last_cause settings map (take p.steps lines) s m Cause.Nothing)
  -- no step before the last was to end it
  pub before : (k : ℕ) → k + 1 < p.steps → ends_after u (get_or (trail_of settings map lines s m) k (after s m Cause.Nothing)) ≡ false
  -- and the last was, where line words are left
  pub last : (k : ℕ) → k + 1 ≡ p.steps → p.steps < length lines → ends_after u (get_or (trail_of settings map lines s m) k (after s m Cause.Nothing)) ≡ true

-- of a call that is not refused
abbrev pub RunEarly : Type 0
RunEarly = (settings : Settings) (map lines : List ℕ) (u : Until) (s : State) (m : List ℕ) (r : Stopped) (m₁ : List ℕ) → run_why settings m map lines ≡ 0
    → left (stopped_page r) m₁ ≡ run_until_page settings m map lines u s → (p : StopPage) × (stopped_page r ≡ answered p) × Early settings map lines u s m p m₁

-- ---- THE SAME FOR C, on the bytes that the calls leave: w are the settings' bytes, b the state's, t the tally's

abbrev pub Wd16SameRun : Type 0
Wd16SameRun = (b t m map w : List ℕ) (line n : ℕ) → step_why (settings_from w) m map line ≡ 0 → n ≤ 4096
    → run_same_call b t m map w line n ≡ run_call b t m map w (replicate n line)

-- the second call is lent the state and the image that the first left, the third those that the first was lent; n + k is a word
abbrev pub Wd16SameJoined : Type 0
Wd16SameJoined = (map w b t t' t'' m : List ℕ) (line n k : ℕ) → refused_step b w ≡ false → length t ≡ 6 → length t' ≡ 6 → length t'' ≡ 6
    → step_why (settings_from w) m map line ≡ 0 → n + k < 65536
    → (k₁ k₂ k₃ : ℕ) (b₁ t₁ m₁ b₂ t₂ m₂ b₃ t₃ m₃ : List ℕ)
    → told k₁ (b₁, t₁, m₁) ≡ run_same_call b t m map w line n
    → told k₂ (b₂, t₂, m₂) ≡ run_same_call b₁ t' m₁ map w line k
    → told k₃ (b₃, t₃, m₃) ≡ run_same_call b t'' m map w line (n + k)
    → CallsJoined n k₁ k₂ k₃ t₁ b₂ t₂ m₂ b₃ t₃ m₃

-- until something happens: the bytes are those of an answer of which the above holds; and a call of `wd16_run` over the line words of its steps leaves the
-- same but for the cause and the address of the last step, and the number of steps
pub record LentEarly (b m map w lines : List ℕ) (asked : ℕ) (b' t' m' : List ℕ) : Type 0 where
  pub page : StopPage
  pub state : b' ≡ state_bytes page.turn.state page.turn.cause page.turn.told
  pub tally : t' ≡ stop_bytes page.blanks page.first page.steps
  pub early : Early (settings_from w) map lines (until_from asked) (state_from b) m page m'
  pub run : (t : List ℕ) (number : ℕ) (b₁ t₁ m₁ : List ℕ) → length t ≡ 6 → told number (b₁, t₁, m₁) ≡ run_call b t m map w (take (word_at t' 6) lines)
      → (number ≡ 0) × (b₁ ≡ uncaused b') × (t₁ ≡ take 6 t') × (m₁ ≡ m')

abbrev pub Wd16RunEarly : Type 0
Wd16RunEarly = (b t m map w lines : List ℕ) (asked : ℕ) (b' t' m' : List ℕ) → told 0 (b', t', m') ≡ run_until_call b t m map w lines asked
    → LentEarly b m map w lines asked b' t' m'
