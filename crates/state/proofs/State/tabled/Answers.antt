use Rattle.board.proofs.Laws.{saw-then, saw-fail, saw-give}
use Rattle.state.specs.Stack.{tabled}
use Rattle.state.proofs.State.tabled.Goals as goal

pub returns-in_err-offset : goal.returns-in_err-offset
unfolding tabled
returns-in_err-offset c = saw-fail _ c.load.ensures c.in_err-offset.was c.from_residual.ensures.1

pub returns : goal.returns
unfolding tabled
returns c = saw-then _ c.load.ensures c.in_ok-offset.was (rw (c.with_pc.ensures, c.plus.ensures) saw-give)
