use Rattle.board.proofs.Laws.{did-then, did-fail}
use Rattle.format1.specs.Format1.{save}
use Rattle.format1.proofs.save.Goals as goal

pub returns-in_err-t : goal.returns-in_err-t
unfolding save
returns-in_err-t c = did-fail _ c.push_three.ensures c.in_err-t.was c.from_residual.ensures.1

pub returns : goal.returns
unfolding save
returns c = did-then _ c.push_three.ensures c.in_ok-t.was c.push_three-2.ensures
