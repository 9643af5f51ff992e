use Rattle.board.proofs.Laws.{saw-then, saw-fail}
use Rattle.format7.specs.Format7.{tjmp}
use Rattle.format7.proofs.tjmp.Goals as goal

pub returns-in_err-t : goal.returns-in_err-t
unfolding tjmp
returns-in_err-t c = saw-fail _ c.destination.ensures c.in_err-t.was c.from_residual.ensures.1

pub returns : goal.returns
unfolding tjmp
returns c = saw-then _ c.destination.ensures c.in_ok-t.was (rw c.plus.ensures at c.tabled.ensures)
