-- A run of one line word and a step: from the definitions to the pages, and from the pages to the bytes for C.
use Rattle.std.specs.Prelude.{ℕ, ◌||◌, cond, List, ◌≡◌, set, eqb, Ok, Err}
use Rattle.step.specs.declared.Turn.{Turn}
use Rattle.step.specs.Step.{blank_at}
use Rattle.machine.specs.declared.Ran.{Ran}
use Rattle.machine.specs.Entry.{Stepped, Finished}
use Rattle.wordbytes.specs.Words.{byte_at, word_at}
use Rattle.machine.specs.Numbers.{place, none}
use Rattle.machine.specs.Run.{blank_noted, no_blanks}
use Rattle.machine_c.specs.Layout.{tally_bytes}

-- a step's turn as a run: its state, with its cause tallied at place 0
abbrev ran_once : Turn → Ran
ran_once t = record { state = t.state; tally = blank_noted no_blanks 0 (blank_at t.cause) }

-- a step's answer as a run's; the same refusal
abbrev pub as_run : Stepped → Finished
as_run (Ok t) = Ok (ran_once t)
as_run (Err why) = Err why

-- ---- for C

-- a state's bytes without a step's cause and address
abbrev pub uncaused : List ℕ → List ℕ
uncaused b = set (set (set (set b 19 0) 21 0) 22 0) 23 0

-- the tally of one step, by the cause and the address that it left: 5, 6 and 9 are blanks
abbrev pub one_tally : ℕ → ℕ → List ℕ
one_tally cause a = cond ((eqb cause 5 || eqb cause 6) || eqb cause 9) (tally_bytes 1 (place 0 a)) (tally_bytes 0 none)

-- the same number and image; where it is 0, the same state but for the step's cause, which is tallied
pub record OneCall (k j : ℕ) (b₁ t₁ m₁ b₂ m₂ : List ℕ) : Type 0 where
  pub number : k ≡ j
  pub image : m₁ ≡ m₂
  pub state : j ≡ 0 → b₁ ≡ uncaused b₂
  pub tally : j ≡ 0 → t₁ ≡ one_tally (byte_at b₂ 19) (word_at b₂ 22)
