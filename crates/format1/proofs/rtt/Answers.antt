use Rattle.board.proofs.Laws.{saw-then, saw-fail}
use Rattle.format1.specs.Format1.{rtt}
use Rattle.format1.proofs.rtt.Goals as goal

pub returns-in_err-t : goal.returns-in_err-t
unfolding rtt
returns-in_err-t c = saw-fail _ c.pop_reg.ensures c.in_err-t.was c.from_residual.ensures.1

pub returns : goal.returns
unfolding rtt
returns c = saw-then _ c.pop_reg.ensures c.in_ok-t.was c.pop_status.ensures
