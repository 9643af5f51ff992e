-- What the public calls answer: a refusal's number alone, or what was asked for in 01's numbers; and the image that they leave.
use Rattle.std.specs.Prelude.{ℕ, List, Result, length}
use Rattle.state.specs.declared.State.{State}
use Rattle.state.specs.declared.Settings.{Settings}
use Rattle.state.specs.State.{heard}
use Rattle.step.specs.declared.Turn.{Turn}
use Rattle.machine.specs.declared.Ran.{Ran}
use Rattle.step.specs.Step.{After, step_of, Up, power_up_of}
use Rattle.refusal.specs.declared.Refusal.{Refusal}
use Rattle.refusal.specs.Answer.{page_of}
use Rattle.refusal.specs.Page.{Page, answered, Left, left, call}
use Rattle.refusal.specs.Refusal.{power_refusal, step_refusal, run_refusal}
use Rattle.machine.specs.Numbers.{StatePage, state_page, TurnPage, turn_page, RanPage, ran_page}
use Rattle.machine.specs.Run.{End, end, run_of}

-- ---- what is answered

abbrev pub Powered : Type 0
Powered = Result State Refusal

abbrev pub powered_page : Powered → Page StatePage
powered_page = page_of state_page

abbrev pub Stepped : Type 0
Stepped = Result Turn Refusal

abbrev pub stepped_page : Stepped → Page TurnPage
stepped_page = page_of turn_page

abbrev pub Finished : Type 0
Finished = Result Ran Refusal

abbrev pub finished_page : Finished → Page RanPage
finished_page = page_of ran_page

-- ---- what is refused: the number, 0 for none

abbrev pub power_why : Settings → List ℕ → List ℕ → ℕ
power_why settings image map = power_refusal (length image) map settings.powerup settings.halt settings.register

abbrev pub step_why : Settings → List ℕ → List ℕ → ℕ → ℕ
step_why settings image map line = step_refusal (length image) map settings.powerup settings.halt settings.register line

abbrev pub run_why : Settings → List ℕ → List ℕ → List ℕ → ℕ
run_why settings image map lines = run_refusal (length image) map settings.powerup settings.halt settings.register lines

-- ---- what is right: the answer, and the image after the call

abbrev pub powered : Up → Left StatePage (List ℕ)
powered u = left (answered (state_page u.state)) u.image

unfoldable pub power_up_page : Settings → List ℕ → List ℕ → Left StatePage (List ℕ)
power_up_page settings image map = call (power_why settings image map) (powered (power_up_of settings map image)) image

abbrev pub turned : After → Left TurnPage (List ℕ)
turned a = left (answered (turn_page (record { state = a.state; cause = a.cause }))) a.image

unfoldable pub step_page : Settings → List ℕ → List ℕ → ℕ → State → Left TurnPage (List ℕ)
step_page settings image map line s = call (step_why settings image map line) (turned (step_of map (heard settings line) s image)) image

abbrev pub run_end : End → Left RanPage (List ℕ)
run_end (end s m t) = left (answered (ran_page (record { state = s; tally = t }))) m

unfoldable pub run_page : Settings → List ℕ → List ℕ → List ℕ → State → Left RanPage (List ℕ)
run_page settings image map lines s = call (run_why settings image map lines) (run_end (run_of settings map lines s image)) image
