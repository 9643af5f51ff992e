use Rattle.std.proofs.Common.{refl, eq-eqb, ne_eqb}
use Rattle.optext.specs.Line.{mode_takes}
use Rattle.optext.proofs.rows.mode_takes.Goals as goal

pub returns-then-f-eq3 : goal.returns-then-f-eq3
unfolding mode_takes
returns-then-f-eq3 c = rw (eq-eqb _ _ c.if-f-eq3.true) refl

pub returns-then-f-eq7 : goal.returns-then-f-eq7
unfolding mode_takes
returns-then-f-eq7 c = rw (ne_eqb _ _ c.if-f-eq3.false, eq-eqb _ _ c.if-f-eq1.true, eq-eqb _ _ c.if-f-eq7.true) refl

pub returns-then-f-eq1 : goal.returns-then-f-eq1
unfolding mode_takes
returns-then-f-eq1 c = rw (ne_eqb _ _ c.if-f-eq3.false, eq-eqb _ _ c.if-f-eq1.true, ne_eqb _ _ c.if-f-eq7.false) refl

pub returns : goal.returns
unfolding mode_takes
returns c = rw (ne_eqb _ _ c.if-f-eq3.false, ne_eqb _ _ c.if-f-eq1.false) refl
