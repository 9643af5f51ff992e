use Rattle.board.proofs.Laws.{saw-give}
use Rattle.step.specs.Xct.{begun}
use borrow.Author.Tests.{eq-eqb, ne_eqb}
use Rattle.step.proofs.xct.begun.Goals as goal

pub returns-then-op-eq5 : goal.returns-then-op-eq5
unfolding begun
returns-then-op-eq5 c = rw (eq-eqb _ _ c.if-op-eq5.true) c.begin_xct.ensures

pub returns : goal.returns
unfolding begun
returns c = rw (ne_eqb _ _ c.if-op-eq5.false) saw-give
