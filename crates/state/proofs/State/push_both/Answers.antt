use Rattle.board.proofs.Laws.{did-then, did-fail}
use Rattle.state.specs.Stack.{push_both}
use Rattle.state.proofs.State.push_both.Goals as goal

pub returns-in_err-s : goal.returns-in_err-s
unfolding push_both
returns-in_err-s c = did-fail _ c.push.ensures c.in_err-s.was c.from_residual.ensures.1

pub returns : goal.returns
unfolding push_both
returns c = did-then _ c.push.ensures c.in_ok-s.was c.push-2.ensures
