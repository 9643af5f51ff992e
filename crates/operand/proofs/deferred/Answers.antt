use Rattle.board.proofs.Laws.{saw-then, saw-fail, saw-give}
use Rattle.operand.specs.Operand.{deferred}
use Rattle.operand.proofs.deferred.Goals as goal

pub returns-in_err-a : goal.returns-in_err-a
unfolding deferred
returns-in_err-a c = saw-fail _ c.load.ensures c.in_err-a.was c.from_residual.ensures.1

pub returns : goal.returns
unfolding deferred
returns c = saw-then _ c.load.ensures c.in_ok-a.was saw-give
