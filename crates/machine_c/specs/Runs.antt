-- What the calls of the runs that a board makes leave: over one line word, and until something happens.
use Rattle.std.specs.Prelude.{ℕ, ◌/◌, ◌%◌, Bool, not, ◌||◌, cond, List, [], ◌∷◌, eqb, ltb, length}
use Rattle.wordbytes.specs.Words.{bytes_in}
use Rattle.refusal.specs.Numbers.{no_state}
use Rattle.refusal.specs.Page.{call, Told, reading}
use Rattle.machine.specs.declared.Until.{Until}
use Rattle.machine.specs.Numbers.{FirstPage}
use Rattle.machine.specs.Same.{run_same_page}
use Rattle.machine.specs.Until.{StopPage, run_until_page}
use Rattle.machine_c.specs.Layout.{state_bytes, place_number, place_told, state_from, settings_from, refused_step, refused_run}
use Rattle.machine_c.specs.Calls.{run_laid}

-- ---- over one line word: as a run's

unfoldable pub run_same_call : List ℕ → List ℕ → List ℕ → List ℕ → List ℕ → ℕ → ℕ → Told (List ℕ × List ℕ × List ℕ)
run_same_call b t image map w line n = reading run_laid (λ m. (b, t, m)) (call (cond (refused_run b t w) no_state 0) (run_same_page (settings_from w) image map line n (state_from b)) image)

-- ---- until something happens

-- what is asked for, in one byte: 1 an interrupt taken, 2 a blank, 4 a lock-up, 8 the halt switch taken
unfoldable pub until_from : ℕ → Until
until_from asked = record { interrupt = eqb (asked % 2) 1; blank = eqb (asked / 2 % 2) 1; lock = eqb (asked / 4 % 2) 1; switch = eqb (asked / 8 % 2) 1 }

-- 8 bytes: a tally's 6, and the number of steps
unfoldable pub stop_bytes : ℕ → FirstPage → ℕ → List ℕ
stop_bytes blanks first steps = bytes_in (blanks ∷ place_number first ∷ place_told first ∷ steps ∷ [])

-- refused as 21: what a step refuses, not 8 bytes, an unused bit of what is asked for
unfoldable pub refused_until : List ℕ → List ℕ → List ℕ → ℕ → Bool
refused_until b t w asked = (refused_step b w || not (eqb (length t) 8)) || ltb 15 asked

-- the state has the cause of the last step and the address that it tells
abbrev pub stop_in : StopPage → List ℕ → List ℕ × List ℕ × List ℕ
stop_in p m = (state_bytes p.turn.state p.turn.cause p.turn.told, stop_bytes p.blanks p.first p.steps, m)

unfoldable pub run_until_call : List ℕ → List ℕ → List ℕ → List ℕ → List ℕ → List ℕ → ℕ → Told (List ℕ × List ℕ × List ℕ)
run_until_call b t image map w lines asked =
    reading stop_in (λ m. (b, t, m)) (call (cond (refused_until b t w asked) no_state 0) (run_until_page (settings_from w) image map lines (until_from asked) (state_from b)) image)
