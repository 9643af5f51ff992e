use Rattle.step.specs.Xct.{traps_alone}
use borrow.Author.Tests.{eq-eqb, ne_eqb}
use Rattle.step.proofs.xct.traps_alone.Goals as goal

pub returns-then-f-eq8 : goal.returns-then-f-eq8
unfolding traps_alone
returns-then-f-eq8 c = rw (eq-eqb _ _ c.if-f-eq8.true)

pub returns-then-f-eq11 : goal.returns-then-f-eq11
unfolding traps_alone
returns-then-f-eq11 c = rw (ne_eqb _ _ c.if-f-eq8.false, eq-eqb _ _ c.if-f-eq11.true)

pub returns-then-op-eq28 : goal.returns-then-op-eq28
unfolding traps_alone
returns-then-op-eq28 c = rw (ne_eqb _ _ c.if-f-eq8.false, ne_eqb _ _ c.if-f-eq11.false, eq-eqb _ _ c.if-op-eq28.true)

pub returns : goal.returns
unfolding traps_alone
returns c = rw (ne_eqb _ _ c.if-f-eq8.false, ne_eqb _ _ c.if-f-eq11.false, ne_eqb _ _ c.if-op-eq28.false)
