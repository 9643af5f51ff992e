use Rattle.board.proofs.Laws.{saw-then, saw-fail}
use Rattle.format1.specs.Format1.{pop_three}
use Rattle.format1.proofs.pop_three.Goals as goal

pub returns-in_err-t : goal.returns-in_err-t
unfolding pop_three
returns-in_err-t c = saw-fail _ c.pop_reg.ensures c.in_err-t.was c.from_residual.ensures.1

pub returns-in_err-u : goal.returns-in_err-u
unfolding pop_three
returns-in_err-u c = saw-then _ c.pop_reg.ensures c.in_ok-t.was (saw-fail _ c.pop_reg-2.ensures c.in_err-u.was c.from_residual-in_err-u.ensures.1)

pub returns : goal.returns
unfolding pop_three
returns c = saw-then _ c.pop_reg.ensures c.in_ok-t.was (saw-then _ c.pop_reg-2.ensures c.in_ok-u.was c.pop_reg-3.ensures)
