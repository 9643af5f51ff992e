-- The inner door: what is asked for where a board is known to be good, and what is promised then.
use Rattle.std.specs.Prelude.{ℕ, ◌≤◌, List, ◌≡◌, length}
use Rattle.board.specs.Exec.{Lent, Board, beside}
use Rattle.state.specs.declared.State.{State}
use Rattle.state.specs.declared.Settings.{Settings}
use Rattle.state.specs.State.{heard}
use Rattle.step.specs.declared.Turn.{Turn}
use Rattle.step.specs.Step.{step_of, turn_of}
use Rattle.machine.specs.declared.Ran.{Ran}
use Rattle.machine.specs.Run.{run_of, ran_of}
use Rattle.refusal.specs.Refusal.{most_line_words}

-- ---- a run: the map, the image and the line words have their lengths

pub record GoodBoard (map image lines : List ℕ) : Type 0 where
  pub lent : Lent map image
  pub few : length lines ≤ most_line_words

pub record Runs (settings : Settings) (map lines : List ℕ) (s : State) (m : List ℕ) (r : Ran) (n : List ℕ) : Type 0 where
  pub same : ran_of r n ≡ run_of settings map lines s m
  pub lent : Lent map n

-- ---- a step: besides, there is the log, which lasts for as many steps as are wanted

pub record Steps (settings : Settings) (map : List ℕ) (line : ℕ) (s : State) (m : List ℕ) (r : Turn) (n log : List ℕ) : Type 0 where
  pub same : turn_of r n ≡ step_of map (heard settings line) s m
  pub board : Board map (beside n log)
