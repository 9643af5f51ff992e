use Rattle.board.proofs.Laws.{did-then, did-fail, did-saw}
use Rattle.step.specs.Xct.{trace}
use Rattle.step.proofs.xct.trace.Goals as goal

pub returns-in_err-t : goal.returns-in_err-t
unfolding trace
returns-in_err-t c = did-fail _ (rw c.ps.ensures at c.push_both.ensures) c.in_err-t.was c.from_residual.ensures.1

pub returns : goal.returns
unfolding trace
returns c = did-then _ (rw c.ps.ensures at c.push_both.ensures) c.in_ok-t.was (did-saw c.push_both.ensures.board c.from_loc.ensures)
