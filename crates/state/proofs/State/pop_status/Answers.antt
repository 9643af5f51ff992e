use Rattle.board.proofs.Laws.{saw-then, saw-fail, saw-give}
use Rattle.state.specs.Stack.{pop_status}
use Rattle.state.proofs.State.pop_status.Goals as goal

pub returns-in_err-s : goal.returns-in_err-s
unfolding pop_status
returns-in_err-s c = saw-fail _ c.pop.ensures c.in_err-s.was c.from_residual.ensures.1

pub returns : goal.returns
unfolding pop_status
returns c = saw-then _ c.pop.ensures c.in_ok-s.was (rw c.with_status.ensures saw-give)
