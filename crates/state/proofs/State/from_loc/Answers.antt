use Rattle.board.proofs.Laws.{saw-then, saw-fail, saw-give}
use Rattle.state.specs.Stack.{from_loc}
use Rattle.state.proofs.State.from_loc.Goals as goal

pub returns-in_err-v : goal.returns-in_err-v
unfolding from_loc
returns-in_err-v c = saw-fail _ c.load.ensures c.in_err-v.was c.from_residual.ensures.1

pub returns : goal.returns
unfolding from_loc
returns c = saw-then _ c.load.ensures c.in_ok-v.was (rw c.with_pc.ensures saw-give)
