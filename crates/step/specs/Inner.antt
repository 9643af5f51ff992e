-- The code's own words, which no page of the manual has: what functions inside a step promise, and what their answers say.
use Rattle.std.specs.Prelude.{ℕ, Bool, true, false, not, ◌||◌, List, ◌≡◌, Result, Ok, Err}
use Rattle.board.specs.declared.Blank.{Blank}
use Rattle.board.specs.Work.{value, blank, run}
use Rattle.board.specs.Exec.{Store, Lent, Board, undone}
use Rattle.state.specs.declared.State.{State}
use Rattle.state.specs.declared.Outside.{Outside}
use Rattle.state.specs.declared.Mode.{Mode}
use Rattle.state.specs.declared.Mode.TheVariants.{Running, Waiting, PowerHalt, SwitchHalt, Locked, Saved}
use Rattle.step.specs.declared.Turn.{Turn}
use Rattle.step.specs.Xct.{op_work}
use Rattle.step.specs.Step.{After, turn_of, Up, up}

-- ---- a step

-- what a step on a board promises
pub record DidStep (map : List ℕ) (a : After) (r : Turn) (st : Store) : Type 0 where
  pub turn : turn_of r st.image ≡ a
  pub board : Board map st

-- and a power-up
pub record DidPowerUp (map : List ℕ) (u : Up) (s : State) (m : List ℕ) : Type 0 where
  pub came : up s m ≡ u
  pub lent : Lent map m

-- nothing is asked for: no I3, no I1, no I0
abbrev pub calm : Outside → Bool
calm out = not (out.i3 || out.i1 || out.i0)

abbrev pub running : Mode → Bool
running Running = true
running Waiting = false
running PowerHalt = false
running SwitchHalt = false
running Locked = false
running Saved = false

-- what an op code's work on a board promises: what it comes to; where it was not answered, the log takes back what was done
pub record Coded (map : List ℕ) (out : Outside) (s : State) (m : List ℕ) (r : Result State Blank) (st : Store) : Type 0 where
  pub done : {t : State} → r ≡ Ok t → run map (op_work out s) m ≡ value t st.image
  pub lost : {b : Blank} → r ≡ Err b → run map (op_work out s) m ≡ blank b.at
  pub back : {b : Blank} → r ≡ Err b → undone st ≡ m
  pub board : Board map st
