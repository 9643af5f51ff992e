-- WISH 11. HALF A SHIFT NOW, HALF LATER: a run over two line lists joined ends as the run over the first followed by the run over the
-- second from where it ended. The blank counts add up; the first blank, its place and its address, is the first run's, or else the
-- second's with its place moved on by the first's length; an empty list is neutral.
-- Whatever runs answer and leave, as their contract promises. That none is refused is a conclusion: the settings, the map and the
-- image aren't, the lists have at most 4,096 words in all, and no word has an unused bit.
use Rattle.std.specs.Prelude.{ℕ, ◌+◌, ◌≤◌, ◌<◌, List, [], ◌∷◌, ◌++◌, ◌≡◌, true, false, cond, length, eqb, Ok, Err}
use Rattle.state.specs.declared.State.{State}
use Rattle.wordbytes.specs.Words.{byte_at, word_at}
use Rattle.machine.specs.declared.Ran.{Ran}
use Rattle.machine.specs.Entry.{Finished, Stepped, power_why, stepped_page, finished_page, step_page, run_page}
use Rattle.machine.specs.Run.{no_blanks}
use Rattle.machine.specs.Trail.{place_moved}
use Rattle.machine.specs.Counted.{or_first}
use Rattle.state.specs.declared.Settings.{Settings}
use Rattle.refusal.specs.Page.{left, told}
use Rattle.refusal.specs.Refusal.{all_of, plain, most_line_words}
use Rattle.machine_c.specs.Layout.{tally_bytes, settings_from, refused_step}
use Rattle.machine.specs.Numbers.{none}
use Rattle.machine_c.specs.Calls.{step_call, run_call}
use Rattle.laws.specs.One.{as_run, uncaused, OneCall}

-- ---- the first blank of two calls for C, by the words of their tallies

-- FFFF where there is none; else the first's place, or the second's moved on by n
abbrev pub first_place : ℕ → ℕ → ℕ → ℕ
first_place n p q = cond (eqb p 65535) (cond (eqb q 65535) 65535 (n + q)) p

-- its address, 0 where there is none
abbrev pub first_told : ℕ → ℕ → ℕ → ℕ
first_told p a b = cond (eqb p 65535) b a

-- ---- two runs and the whole

-- the whole run, beside its halves: n is the length of the first list
pub record Halves (n : ℕ) (first second whole : Ran) : Type 0 where
  pub state : whole.state ≡ second.state
  pub blanks : whole.tally.blanks ≡ first.tally.blanks + second.tally.blanks
  pub first_blank : whole.tally.first ≡ or_first first.tally.first (place_moved n second.tally.first)

-- the state that a run ends in; as lent where it is refused
abbrev pub state_left : Finished → State → State
state_left (Ok a) s = a.state
state_left (Err why) s = s

-- three runs, none of them refused
pub record Joined (n : ℕ) (r q p : Finished) (m₂ m₃ : List ℕ) : Type 0 where
  pub first : Ran
  pub second : Ran
  pub whole : Ran
  pub first_done : r ≡ Ok first
  pub second_done : q ≡ Ok second
  pub whole_done : p ≡ Ok whole
  pub halves : Halves n first second whole
  pub image : m₃ ≡ m₂

-- ---- AN EMPTY LIST IS NEUTRAL: the run over it stays where it is, without a blank; so before another or after it, it adds nothing

abbrev pub still : State → Ran
still s = record { state = s; tally = no_blanks }

-- ---- THE SAME FOR C, on the bytes that the calls leave: the second call is lent the state and the image that the first left, the
-- third those that the first was lent. w are the settings' bytes

pub record CallsJoined (n k₁ k₂ k₃ : ℕ) (t₁ b₂ t₂ m₂ b₃ t₃ m₃ : List ℕ) : Type 0 where
  pub numbers : (k₁ ≡ 0) × (k₂ ≡ 0) × (k₃ ≡ 0)
  pub state : b₃ ≡ b₂
  pub image : m₃ ≡ m₂
  pub blanks : word_at t₃ 0 ≡ word_at t₁ 0 + word_at t₂ 0
  pub place : word_at t₃ 2 ≡ first_place n (word_at t₁ 2) (word_at t₂ 2)
  pub told : word_at t₃ 4 ≡ first_told (word_at t₁ 2) (word_at t₁ 4) (word_at t₂ 4)

module _ (settings : Settings) (map xs ys : List ℕ) (s : State) (m : List ℕ)
    (board : power_why settings m map ≡ 0) (few : length xs + length ys ≤ most_line_words) (unused : all_of plain xs ≡ true) (unused_too : all_of plain ys ≡ true) where
  -- HALF NOW, HALF LATER
  abbrev pub RunJoined : Type 0
  RunJoined = (r q p : Finished) (m₁ m₂ m₃ : List ℕ)
      → left (finished_page r) m₁ ≡ run_page settings m map xs s
      → left (finished_page q) m₂ ≡ run_page settings m₁ map ys (state_left r s)
      → left (finished_page p) m₃ ≡ run_page settings m map (xs ++ ys) s
      → Joined (length xs) r q p m₂ m₃

-- ---- AN EMPTY LIST IS NEUTRAL: the run over it stays where it is, without a blank; so before another or after it, it adds nothing

abbrev pub RunNone : Type 0
RunNone = (settings : Settings) (map : List ℕ) (s : State) (m n : List ℕ) (r : Finished) → power_why settings m map ≡ 0
    → left (finished_page r) n ≡ run_page settings m map [] s → (r ≡ Ok (still s)) × (n ≡ m)

abbrev pub NoneBefore : Type 0
NoneBefore = (s : State) (a : Ran) → Halves 0 (still s) a a

abbrev pub NoneAfter : Type 0
NoneAfter = (n : ℕ) (a : Ran) → Halves n a (still a.state) a

-- ---- A RUN OF ONE LINE WORD IS A STEP: the same refusal, or the same state and image, with the step's cause tallied at place 0

abbrev pub RunOne : Type 0
RunOne = (settings : Settings) (map : List ℕ) (line : ℕ) (s : State) (m m₁ m₂ : List ℕ) (r : Finished) (q : Stepped)
    → left (finished_page r) m₁ ≡ run_page settings m map (line ∷ []) s → left (stepped_page q) m₂ ≡ step_page settings m map line s → (r ≡ as_run q) × (m₁ ≡ m₂)

-- ---- THE SAME FOR C, on the bytes that the calls leave: the second call is lent the state and the image that the first left, the
-- third those that the first was lent. w are the settings' bytes

module _ (map w xs ys b t t' t'' m : List ℕ) (good : refused_step b w ≡ false) (tally : length t ≡ 6) (tally' : length t' ≡ 6) (tally'' : length t'' ≡ 6)
    (board : power_why (settings_from w) m map ≡ 0) (few : length xs + length ys ≤ most_line_words) (unused : all_of plain xs ≡ true) (unused_too : all_of plain ys ≡ true) where
  abbrev pub Wd16RunJoined : Type 0
  Wd16RunJoined = (k₁ k₂ k₃ : ℕ) (b₁ t₁ m₁ b₂ t₂ m₂ b₃ t₃ m₃ : List ℕ)
      → told k₁ (b₁, t₁, m₁) ≡ run_call b t m map w xs
      → told k₂ (b₂, t₂, m₂) ≡ run_call b₁ t' m₁ map w ys
      → told k₃ (b₃, t₃, m₃) ≡ run_call b t'' m map w (xs ++ ys)
      → CallsJoined (length xs) k₁ k₂ k₃ t₁ b₂ t₂ m₂ b₃ t₃ m₃

-- a run of one line word and a step: where neither is refused, the run's state has no cause and no address, and its tally is that of
-- the step's cause
abbrev pub Wd16RunOne : Type 0
Wd16RunOne = (b t m map w : List ℕ) (line k j : ℕ) (b₁ t₁ m₁ b₂ m₂ : List ℕ) → length t ≡ 6
    → told k (b₁, t₁, m₁) ≡ run_call b t m map w (line ∷ []) → told j (b₂, m₂) ≡ step_call b m map w line → OneCall k j b₁ t₁ m₁ b₂ m₂

-- AN EMPTY LIST FOR C: an empty run leaves the image, and the state's bytes but for the cause and the address that the step before left
-- there, which become 0 (`uncaused`); its tally has no blank. So what a C caller wants of a step's cause is to be read before the run.
-- The premise on b is what bytes are; the others are that nothing is refused.
abbrev pub Wd16RunNone : Type 0
Wd16RunNone = (b t m map w : List ℕ) (k : ℕ) (b₁ t₁ m₁ : List ℕ) → refused_step b w ≡ false → length t ≡ 6 → power_why (settings_from w) m map ≡ 0 → ((i : ℕ) → byte_at b i < 256)
    → told k (b₁, t₁, m₁) ≡ run_call b t m map w [] → (k ≡ 0) × (b₁ ≡ uncaused b) × (t₁ ≡ tally_bytes 0 none) × (m₁ ≡ m)
