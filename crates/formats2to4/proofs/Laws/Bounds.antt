-- An op code of formats 1 to 4 writes at most nine times: SVCB and SVCC.
use Prim.Native.Nat.{ℕ}
use Rattle.board.proofs.Laws.Bounded.{Bounded, bounds}
use Rattle.state.specs.declared.State.{State}
use Rattle.state.specs.declared.Outside.{Outside}
use Rattle.state.proofs.Laws.Bounds.{opened}
use Rattle.format1.specs.Format1.{push_three, save}
use Rattle.format1.proofs.Laws.Bounds.{bounded-format1}
use Rattle.formats2to4.specs.Format2.{rtn, msko, prtn, format2}
use Rattle.formats2to4.specs.Format4.{svca, svc, format4}
use Rattle.formats2to4.specs.Low.{formats2to4, low_codes}

pub bounded-low_codes : (out : Outside) (s : State) (op : ℕ) → Bounded 9 (low_codes out s op)
unfolding low_codes formats2to4 format2 rtn msko prtn format4 svca svc save push_three opened
bounded-low_codes out s op = search (bounds, bounded-format1) depth 30
