use borrow.Author.Tests.{eq-eqb, ne_eqb}
use Rattle.board.proofs.Laws.{did-saw}
use Rattle.format7.specs.Rows.{status_at}
use Rattle.format7.proofs.status_code.Goals as goal

pub returns-then-row-eq12 : goal.returns-then-row-eq12
unfolding status_at
returns-then-row-eq12 c = rw (eq-eqb _ _ c.if-row-eq12.true) (did-saw c.requires c.lsts.ensures)

pub returns : goal.returns
unfolding status_at
returns c = rw (ne_eqb _ _ c.if-row-eq12.false) c.ssts.ensures
