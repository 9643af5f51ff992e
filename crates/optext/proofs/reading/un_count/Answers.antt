use Rattle.std.proofs.Common.{refl, arith, eq-eqb, ne_eqb}
use Rattle.optext.specs.Guess.{un_count}
use Rattle.optext.proofs.reading.un_count.Goals as goal

pub returns-then-byte_at-eq49 : goal.returns-then-byte_at-eq49
unfolding un_count
returns-then-byte_at-eq49 c = (rw (← c.byte_at.ensures, eq-eqb _ _ c.if-byte_at-eq49.true) refl, omega arith)

pub returns-then-d-eq0 : goal.returns-then-d-eq0
unfolding un_count
returns-then-d-eq0 c = (rw (← c.byte_at.ensures, ne_eqb _ _ c.if-byte_at-eq49.false, ← c.byte_at-2.ensures, ← c.un_hex-d.ensures.0, c.if-d-eq0.true) refl, omega arith)

pub returns : goal.returns
unfolding un_count
returns c = (rw (← c.byte_at.ensures, ne_eqb _ _ c.if-byte_at-eq49.false, ← c.byte_at-2.ensures, ← c.un_hex-d.ensures.0) refl, omega arith)
