use Rattle.board.proofs.Laws.{did-then, did-fail, did-saw}
use Rattle.state.specs.Stack.{trap}
use Rattle.state.proofs.State.trap.Goals as goal

pub returns-in_err-s : goal.returns-in_err-s
unfolding trap
returns-in_err-s c = did-fail _ c.push_both.ensures c.in_err-s.was c.from_residual.ensures.1

pub returns : goal.returns
unfolding trap
returns c = did-then _ c.push_both.ensures c.in_ok-s.was (rw (← c.with_i2.ensures, ← c.with_mark.ensures, ← c.with_mode.ensures) (did-saw c.push_both.ensures.board c.from_loc.ensures))
