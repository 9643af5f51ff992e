use Rattle.board.proofs.Laws.{saw-then, saw-fail, saw-give}
use Rattle.format7.specs.Format7.{lsts}
use Rattle.format7.proofs.lsts.Goals as goal

pub returns-in_err-t : goal.returns-in_err-t
unfolding lsts
returns-in_err-t c = saw-fail _ c.destination.ensures c.in_err-t.was c.from_residual.ensures.1

pub returns : goal.returns
unfolding lsts
returns c = saw-then _ c.destination.ensures c.in_ok-t.was (rw c.with_status.ensures saw-give)
