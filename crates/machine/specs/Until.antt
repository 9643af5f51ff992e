-- A run that ends early: after the first step whose cause is asked for, or after which the processor waits or is halted. It is the run
-- over the line words of those steps.
use Rattle.std.specs.Prelude.{ℕ, ◌+◌, ◌≤◌, Bool, true, false, ◌||◌, cond, List, [], ◌∷◌, ◌≡◌, get_or, take, Result}
use Rattle.board.specs.Exec.{Lent, Store, Board}
use Rattle.state.specs.declared.State.{State}
use Rattle.state.specs.declared.Settings.{Settings}
use Rattle.state.specs.declared.Mode.{Mode}
use Rattle.state.specs.State.{heard}
use Rattle.step.specs.declared.Cause.{Cause}
use Rattle.step.specs.Step.{after, step_of, blank_at}
use Rattle.refusal.specs.declared.Refusal.{Refusal}
use Rattle.refusal.specs.Answer.{page_of}
use Rattle.refusal.specs.Page.{Page, answered, Left, left, call}
use Rattle.machine.specs.declared.Stage.{Stage}
use Rattle.machine.specs.declared.Stop.{Stop}
use Rattle.machine.specs.declared.Until.{Until}
use Rattle.machine.specs.Numbers.{TurnPage, turn_page, FirstPage, first_page}
use Rattle.machine.specs.Run.{End, end, blank_noted, run_of, last_cause}
use Rattle.machine.specs.Entry.{run_why}

-- ---- where a run ends

-- an interrupt is taken: I1 or I0; a blank is met; the processor is locked; the halt switch, I3, is taken
abbrev pub asks : Until → Cause → Bool
asks u Cause.OpCode = false
asks u Cause.Switch = u.switch
asks u Cause.NonVectored = u.interrupt
asks u Cause.Vectored = u.interrupt
asks u Cause.Nothing = false
asks u (Cause.OpCodeBlank a) = u.blank
asks u (Cause.InterruptBlank a) = u.blank
asks u (Cause.SaveBlank a) = u.blank
asks u (Cause.LockedAt a) = u.lock
asks u Cause.Locked = u.lock

-- the processor waits, or is halted
abbrev pub rests : Mode → Bool
rests Mode.Running = false
rests Mode.Waiting = true
rests Mode.PowerHalt = true
rests Mode.SwitchHalt = true
rests Mode.Locked = false
rests Mode.Saved = true

abbrev pub ends : Until → Cause → Mode → Bool
ends u c mode = asks u c || rests mode

-- the number of steps: up to the first after which it ends, or all
unfoldable pub steps_to : Settings → List ℕ → Until → List ℕ → State → List ℕ → ℕ
steps_to settings map u [] s m = 0
steps_to settings map u (line ∷ lines) s m =
    let a = step_of map (heard settings line) s m in
    cond (ends u a.cause a.state.mode) 1 (1 + steps_to settings map u lines a.state a.image)

-- ---- what is answered: the state, the cause and its address after the last step, the tally, and the number of steps

pub record StopPage : Type 0 where
  pub turn : TurnPage
  pub blanks : ℕ
  pub first : FirstPage
  pub steps : ℕ

abbrev pub stop_page : Stop → StopPage
stop_page r = record { turn = turn_page r.turn; blanks = r.tally.blanks; first = first_page r.tally.first; steps = r.steps }

abbrev pub Stopped : Type 0
Stopped = Result Stop Refusal

abbrev pub stopped_page : Stopped → Page StopPage
stopped_page = page_of stop_page

-- ---- what is right

abbrev pub stopped : End → Cause → ℕ → Left StopPage (List ℕ)
stopped (end s m t) c n = left (answered (stop_page (record { turn = record { state = s; cause = c }; tally = t; steps = n }))) m

-- the run over the first n line words, and its last cause, 4 (nothing was done) where there is no step
abbrev pub run_for : Settings → List ℕ → List ℕ → State → List ℕ → ℕ → Left StopPage (List ℕ)
run_for settings map lines s m n = stopped (run_of settings map (take n lines) s m) (last_cause settings map (take n lines) s m Cause.Nothing) n

abbrev pub until_of : Settings → List ℕ → List ℕ → Until → State → List ℕ → Left StopPage (List ℕ)
until_of settings map lines u s m = run_for settings map lines s m (steps_to settings map u lines s m)

unfoldable pub run_until_page : Settings → List ℕ → List ℕ → List ℕ → Until → State → Left StopPage (List ℕ)
run_until_page settings image map lines u s = call (run_why settings image map lines) (until_of settings map lines u s image) image

-- ---- what a stride promises: the step at its place

pub record Strode (settings : Settings) (map lines : List ℕ) (b : Stage) (m : List ℕ) (r : Stage) (st : Store) : Type 0 where
  pub step : after r.state st.image r.cause ≡ step_of map (heard settings (get_or lines b.at 0)) b.state m
  pub tally : r.tally ≡ blank_noted b.tally b.at (blank_at r.cause)
  pub next : r.at ≡ b.at + 1
  pub few : r.tally.blanks ≤ r.at
  pub board : Board map st

abbrev pub stop_at : Stage → Stop
stop_at r = record { turn = record { state = r.state; cause = r.cause }; tally = r.tally; steps = r.at }

-- what all strides promise
pub record Ended (settings : Settings) (map lines : List ℕ) (u : Until) (s : State) (m : List ℕ) (r : Stop) (m' : List ℕ) : Type 0 where
  pub same : left (answered (stop_page r)) m' ≡ until_of settings map lines u s m
  pub lent : Lent map m'
