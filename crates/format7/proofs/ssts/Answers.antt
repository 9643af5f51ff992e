use Rattle.board.proofs.Laws.{did-then, did-fail, did-saw}
use Rattle.format7.specs.Format7.{ssts}
use Rattle.format7.proofs.ssts.Goals as goal

pub returns-in_err-t : goal.returns-in_err-t
unfolding ssts
returns-in_err-t c = did-fail _ (did-saw c.requires c.destination.ensures) c.in_err-t.was c.from_residual.ensures.1

pub returns : goal.returns
unfolding ssts
returns c = did-then _ (did-saw c.requires c.destination.ensures) c.in_ok-t.was (rw (c.ps.ensures, c.destination_register-k.ensures) at c.write.ensures)
