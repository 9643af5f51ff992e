use Rattle.format8.specs.Format8.{again}
use borrow.Author.Tests.{eq-eqb, ne_eqb}
use Rattle.format8.proofs.again.Goals as goal

pub returns-then-t-eq0 : goal.returns-then-t-eq0
unfolding again
returns-then-t-eq0 c = rw (eq-eqb _ _ c.if-t-eq0.true)

pub returns : goal.returns
unfolding again
returns c = rw (ne_eqb _ _ c.if-t-eq0.false, ← c.minus.ensures) c.with_pc.ensures
