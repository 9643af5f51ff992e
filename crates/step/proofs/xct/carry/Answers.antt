use Rattle.board.proofs.Laws.{did-then, did-fail}
use Rattle.step.specs.Xct.{carry}
use Rattle.step.proofs.xct.carry.Goals as goal

pub returns-in_err-t : goal.returns-in_err-t
unfolding carry
returns-in_err-t c = did-fail _ (rw c.with_mark.ensures at c.execute.ensures) c.in_err-t.was c.from_residual.ensures.1

pub returns : goal.returns
unfolding carry
returns c = did-then _ (rw c.with_mark.ensures at c.execute.ensures) c.in_ok-t.was c.traced.ensures
