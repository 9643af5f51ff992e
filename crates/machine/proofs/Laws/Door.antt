-- Laws of specs/Door.antt.
use Prim.Native.Nat.{ℕ}
use mathlib.Core.List.{List, [], ◌∷◌}
use mathlib.Core.Path.{◌≡◌}
use Rattle.board.specs.Exec.{Store}
use Rattle.state.specs.declared.State.{State}
use Rattle.state.specs.declared.Settings.{Settings}
use Rattle.state.specs.State.{heard}
use Rattle.step.specs.Step.{after, step_of}
use Rattle.machine.specs.declared.Last.{Last}
use Rattle.machine.specs.Run.{LoggedRun}
use Rattle.machine.proofs.Laws.Run.{run-of-one}

-- a run over one line word is a step
pub logged-one : (settings : Settings) (map : List ℕ) (line : ℕ) (s : State) (m : List ℕ) (r : Last) (st : Store)
    → LoggedRun settings map (line ∷ []) s m r st → after r.ran.state st.image r.cause ≡ step_of map (heard settings line) s m
logged-one settings map line s m r st h = run-of-one settings map line s m h.same h.cause
