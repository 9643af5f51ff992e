use Rattle.board.proofs.Laws.{did-then, did-fail, did-saw}
use Rattle.format8.specs.Format8.{transfer}
use Rattle.format8.proofs.transfer.Goals as goal

pub returns-in_err-v : goal.returns-in_err-v
unfolding transfer
returns-in_err-v c = did-fail _ (did-saw c.requires c.read.ensures) c.in_err-v.was c.from_residual.ensures.1

pub returns : goal.returns
unfolding transfer
returns c = did-then _ (did-saw c.requires c.read.ensures) c.in_ok-v.was c.write.ensures
