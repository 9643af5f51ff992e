use Rattle.board.proofs.Laws.{did-give}
use borrow.Author.Tests.{eq-eqb, ne_eqb}
use Rattle.format7.specs.Rows.{stored_at}
use Rattle.format7.proofs.stored.Goals as goal

pub returns-then-row-eq2 : goal.returns-then-row-eq2
unfolding stored_at
returns-then-row-eq2 c = rw (eq-eqb _ _ c.if-row-eq2.true) (did-give c.requires)

pub returns : goal.returns
unfolding stored_at
returns c = rw (← c.destination_register-k.ensures, ne_eqb _ _ c.if-row-eq2.false) c.write.ensures
