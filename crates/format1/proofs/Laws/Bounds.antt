-- An op code of format 1 writes at most nine times.
use Prim.Native.Nat.{ℕ}
use Rattle.board.proofs.Laws.Bounded.{Bounded, bounds}
use Rattle.state.specs.declared.State.{State}
use Rattle.state.specs.declared.Outside.{Outside}
use Rattle.state.proofs.Laws.Bounds.{opened}
use Rattle.format1.specs.Format1.{bpt, push_three, pop_three, save, savs, rest, rtt, rrtn, rrtt, rsts, rsvc, format1}

pub bounded-format1 : (out : Outside) (s : State) (op : ℕ) → Bounded 9 (format1 out s op)
unfolding format1 bpt push_three pop_three save savs rest rtt rrtn rrtt rsts rsvc opened
bounded-format1 out s op = search bounds depth 60
