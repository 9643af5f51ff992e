use Rattle.board.proofs.Laws.{saw-then, saw-fail}
use Rattle.format1.specs.Format1.{rrtt}
use Rattle.format1.proofs.rrtt.Goals as goal

pub returns-in_err-t : goal.returns-in_err-t
unfolding rrtt
returns-in_err-t c = saw-fail _ c.rest.ensures c.in_err-t.was c.from_residual.ensures.1

pub returns : goal.returns
unfolding rrtt
returns c = saw-then _ c.rest.ensures c.in_ok-t.was c.rtt.ensures
