-- An op code of format 7 writes at most twice.
use Prim.Native.Nat.{ℕ}
use Rattle.board.proofs.Laws.Bounded.{Bounded}
use Rattle.state.specs.declared.State.{State}
use Rattle.state.specs.declared.Outside.{Outside}
use Rattle.state.proofs.Laws.Bounds.{opened}
use Rattle.operand.proofs.Laws.Bounds.{operand-bounds}
use Rattle.format7.specs.Format7.{modify, test, tcall, tjmp, lsts, ssts, format7}

pub bounded-format7 : (out : Outside) (s : State) (op : ℕ) → Bounded 2 (format7 out s op)
unfolding format7 modify test tcall tjmp lsts ssts opened
bounded-format7 out s op = search operand-bounds depth 30
