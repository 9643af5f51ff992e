use Rattle.std.proofs.Common.{refl, arith, eq-eqb, ne_eqb}
use Rattle.optext.specs.Guess.{un_mode}
use Rattle.optext.proofs.reading.un_mode.Goals as goal

pub returns-then-c-eq64 : goal.returns-then-c-eq64
unfolding un_mode
returns-then-c-eq64 c = (rw (c.read_as.ensures, ← c.byte_at-c.ensures, eq-eqb _ _ c.if-c-eq64.true, ← c.after.ensures, ← c.un_plain-o.ensures.0) refl, rw c.read_as.ensures (omega arith), rw c.read_as.ensures (omega arith))

pub returns : goal.returns
unfolding un_mode
returns c = (rw (← c.byte_at-c.ensures, ne_eqb _ _ c.if-c-eq64.false) c.un_plain.ensures.0, omega arith, omega arith)
