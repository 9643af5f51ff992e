use Rattle.board.proofs.Laws.{saw-then, saw-fail}
use Rattle.formats2to4.specs.Format2.{prtn}
use Rattle.formats2to4.proofs.format2.prtn.Goals as goal

pub returns-in_err-tmp : goal.returns-in_err-tmp
unfolding prtn
returns-in_err-tmp c = saw-fail _ c.load.ensures c.in_err-tmp.was c.from_residual.ensures.1

pub returns : goal.returns
unfolding prtn
returns c = saw-then _ c.load.ensures c.in_ok-tmp.was (rw (c.with_sp.ensures, c.plus-2.ensures, c.plus.ensures) at c.rtn.ensures)
