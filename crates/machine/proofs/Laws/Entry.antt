-- What a call leaves, by its page: a refusal, and an answer.
use Prim.Native.Nat.{ℕ}
use mathlib.Core.List.{List}
use mathlib.Core.Path.{◌≡◌, ap}
use Rattle.state.specs.declared.State.{State}
use Rattle.state.specs.declared.Settings.{Settings}
use Rattle.state.specs.State.{heard}
use Rattle.step.specs.declared.Turn.{Turn}
use Rattle.machine.specs.declared.Ran.{Ran}
use Rattle.step.specs.Step.{step_of, up, power_up_of, turn_of}
use Rattle.refusal.specs.Page.{refused, answered, left}
use Rattle.refusal.proofs.Laws.Page.{call-refused, call-answered}
use Rattle.machine.specs.Numbers.{state_page, turn_page, ran_page}
use Rattle.machine.specs.Run.{run_of, ran_of}
use Rattle.machine.specs.Entry.{power_why, step_why, run_why, powered, power_up_page, turned, step_page, run_end, run_page}

module _ (settings : Settings) (image map : List ℕ) where
  pub power-refused : (why : ℕ) → why ≡ power_why settings image map → (why ≡ 0 → ⊥) → left (refused why) image ≡ power_up_page settings image map
  unfolding power_up_page
  power-refused why e n = call-refused (power_why settings image map) (powered (power_up_of settings map image)) image why e n

  pub power-answered : (s : State) (m : List ℕ) → power_why settings image map ≡ 0 → up s m ≡ power_up_of settings map image → left (answered (state_page s)) m ≡ power_up_page settings image map
  unfolding power_up_page
  power-answered s m e h = call-answered (power_why settings image map) (powered (power_up_of settings map image)) image (powered (up s m)) e (ap powered h)

module _ (settings : Settings) (image map : List ℕ) (line : ℕ) (s : State) where
  pub step-refused : (why : ℕ) → why ≡ step_why settings image map line → (why ≡ 0 → ⊥) → left (refused why) image ≡ step_page settings image map line s
  unfolding step_page
  step-refused why e n = call-refused (step_why settings image map line) (turned (step_of map (heard settings line) s image)) image why e n

  pub step-answered : (r : Turn) (m : List ℕ) → step_why settings image map line ≡ 0 → turn_of r m ≡ step_of map (heard settings line) s image → left (answered (turn_page r)) m ≡ step_page settings image map line s
  unfolding step_page
  step-answered r m e h = call-answered (step_why settings image map line) (turned (step_of map (heard settings line) s image)) image (turned (turn_of r m)) e (ap turned h)

module _ (settings : Settings) (image map lines : List ℕ) (s : State) where
  pub run-refused : (why : ℕ) → why ≡ run_why settings image map lines → (why ≡ 0 → ⊥) → left (refused why) image ≡ run_page settings image map lines s
  unfolding run_page
  run-refused why e n = call-refused (run_why settings image map lines) (run_end (run_of settings map lines s image)) image why e n

  pub run-answered : (r : Ran) (m : List ℕ) → run_why settings image map lines ≡ 0 → ran_of r m ≡ run_of settings map lines s image → left (answered (ran_page r)) m ≡ run_page settings image map lines s
  unfolding run_page
  run-answered r m e h = call-answered (run_why settings image map lines) (run_end (run_of settings map lines s image)) image (run_end (ran_of r m)) e (ap run_end h)
