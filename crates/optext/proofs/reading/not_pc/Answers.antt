use Rattle.std.proofs.Common.{refl, arith, eq-eqb, ne_eqb}
use Rattle.optext.specs.Guess.{not_pc}
use Rattle.optext.proofs.reading.not_pc.Goals as goal

pub returns-then-r-eq7 : goal.returns-then-r-eq7
unfolding not_pc
returns-then-r-eq7 c = (rw (eq-eqb _ _ c.if-r-eq7.true) refl, omega arith)

pub returns : goal.returns
unfolding not_pc
returns c = (rw (ne_eqb _ _ c.if-r-eq7.false) refl, omega arith)
