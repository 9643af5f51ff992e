use Rattle.std.proofs.Common.{refl, arith, le-ltb, lt-ltb, eq-eqb, ne_eqb}
use Rattle.optext.specs.Guess.{un_reg}
use Rattle.optext.proofs.reading.un_reg.Goals as goal

pub returns-then-a-eq83 : goal.returns-then-a-eq83
unfolding un_reg
returns-then-a-eq83 c = (rw (eq-eqb _ _ c.if-a-eq83.true) refl, omega arith)

pub returns-then-a-eq80 : goal.returns-then-a-eq80
unfolding un_reg
returns-then-a-eq80 c = (rw (ne_eqb _ _ c.if-a-eq83.false, eq-eqb _ _ c.if-a-eq80.true) refl, omega arith)

pub returns-then-b-lt48 : goal.returns-then-b-lt48
unfolding un_reg
returns-then-b-lt48 c = (rw (ne_eqb _ _ c.if-a-eq83.false, ne_eqb _ _ c.if-a-eq80.false, lt-ltb _ _ c.if-b-lt48.true) refl, omega arith)

pub returns-then-b-lt54 : goal.returns-then-b-lt54
unfolding un_reg
returns-then-b-lt54 c = (rw (ne_eqb _ _ c.if-a-eq83.false, ne_eqb _ _ c.if-a-eq80.false, le-ltb _ _ c.if-b-lt48.false, lt-ltb _ _ c.if-b-lt54.true) refl, omega arith)

pub returns : goal.returns
unfolding un_reg
returns c = (rw (ne_eqb _ _ c.if-a-eq83.false, ne_eqb _ _ c.if-a-eq80.false, le-ltb _ _ c.if-b-lt48.false, le-ltb _ _ c.if-b-lt54.false) refl, omega arith)
