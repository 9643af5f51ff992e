-- A run: one step for each line word.
use Rattle.std.specs.Prelude.{ℕ, ◌+◌, List, [], ◌∷◌, ◌≡◌, Option, Some, None}
use Rattle.board.specs.Exec.{Store, Lent, Board}
use Rattle.state.specs.declared.State.{State}
use Rattle.state.specs.declared.Settings.{Settings}
use Rattle.state.specs.State.{heard}
use Rattle.machine.specs.declared.Ran.{Ran}
use Rattle.machine.specs.declared.Last.{Last}
use Rattle.machine.specs.declared.Tally.{Tally}
use Rattle.machine.specs.declared.FirstBlank.{FirstBlank}
use Rattle.machine.specs.Numbers.{first_at}
use Rattle.step.specs.declared.Cause.{Cause}
use Rattle.step.specs.Step.{step_of, blank_at}

-- the place of the first blank and the address that it told: the earlier one stays
abbrev pub first_kept : Option FirstBlank → ℕ → ℕ → Option FirstBlank
first_kept (Some b) place address = Some b
first_kept None place address = Some (first_at place address)

-- the blanks counted, and the first of them, after the step at this place
unfoldable pub blank_noted : Tally → ℕ → Option ℕ → Tally
blank_noted t place None = t
blank_noted t place (Some a) = record { blanks = t.blanks + 1; first = first_kept t.first place a }

abbrev pub no_blanks : Tally
no_blanks = record { blanks = 0; first = None }

-- the state, the image and the tally at the end
pub data End : Type 0 where
  end : State → List ℕ → Tally → End

-- the rest of a run: from a place, over the line words that are left, with the tally so far
unfoldable pub rest_of_run : Settings → List ℕ → ℕ → List ℕ → State → List ℕ → Tally → End
rest_of_run settings map place [] s m t = end s m t
rest_of_run settings map place (line ∷ lines) s m t =
    let a = step_of map (heard settings line) s m in
    rest_of_run settings map (place + 1) lines a.state a.image (blank_noted t place (blank_at a.cause))

abbrev pub run_of : Settings → List ℕ → List ℕ → State → List ℕ → End
run_of settings map lines s m = rest_of_run settings map 0 lines s m no_blanks

abbrev pub ran_of : Ran → List ℕ → End
ran_of r m = end r.state m r.tally

-- the cause of the last step, c where there is none
unfoldable pub last_cause : Settings → List ℕ → List ℕ → State → List ℕ → Cause → Cause
last_cause settings map [] s m c = c
last_cause settings map (line ∷ lines) s m c =
    let a = step_of map (heard settings line) s m in
    last_cause settings map lines a.state a.image a.cause

-- what a run on a board promises: the end, and the last cause
pub record Ended (settings : Settings) (map lines : List ℕ) (s : State) (m : List ℕ) (r : Last) (n : List ℕ) : Type 0 where
  pub same : ran_of r.ran n ≡ run_of settings map lines s m
  pub cause : r.cause ≡ last_cause settings map lines s m Cause.Nothing
  pub lent : Lent map n

-- and a run whose log is lent, which may hold the last step's entries after it
pub record LoggedRun (settings : Settings) (map lines : List ℕ) (s : State) (m : List ℕ) (r : Last) (st : Store) : Type 0 where
  pub same : ran_of r.ran st.image ≡ run_of settings map lines s m
  pub cause : r.cause ≡ last_cause settings map lines s m Cause.Nothing
  pub board : Board map st
