-- A block move writes once in a step.
use Prim.Native.Nat.{ℕ}
use Rattle.board.specs.Work.{◌>>=◌}
use Rattle.board.proofs.Laws.Bounded.{Bounded, bounds}
use Rattle.state.specs.declared.State.{State}
use Rattle.format8.specs.Format8.{transfer, element, format8}

pub bounded-format8 : (s : State) (op : ℕ) → Bounded 1 (format8 s op)
unfolding element transfer ◌>>=◌
bounded-format8 s op = search bounds
