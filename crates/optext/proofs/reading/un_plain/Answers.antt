use Rattle.std.proofs.Common.{refl, arith, le-ltb, lt-ltb, eq-eqb, ne_eqb}
use Rattle.optext.specs.Guess.{un_plain}
use Rattle.optext.proofs.reading.un_plain.Goals as goal

pub returns-then-c-eq40 : goal.returns-then-c-eq40
unfolding un_plain
returns-then-c-eq40 c = (rw (c.read_as.ensures, ← c.byte_at-c.ensures, eq-eqb _ _ c.if-c-eq40.true, c.not_pc-r.ensures.0, c.un_reg.ensures.0, c.byte_at.ensures, c.byte_at-then-c-eq40.ensures) refl, rw c.read_as.ensures (omega arith), rw c.read_as.ensures (omega arith))

pub returns-then-c-eq45 : goal.returns-then-c-eq45
unfolding un_plain
returns-then-c-eq45 c = (rw (c.read_as-then-c-eq45.ensures, ← c.byte_at-c.ensures, ne_eqb _ _ c.if-c-eq40.false, eq-eqb _ _ c.if-c-eq45.true, c.un_reg-r.ensures.0, c.byte_at-then-c-eq45.ensures, c.byte_at-then-c-eq45-2.ensures) refl, rw c.read_as-then-c-eq45.ensures (omega arith), rw c.read_as-then-c-eq45.ensures (omega arith))

pub returns-then-c-eq35 : goal.returns-then-c-eq35
unfolding un_plain
returns-then-c-eq35 c = (rw (c.read_as-then-c-eq35.ensures, ← c.byte_at-c.ensures, ne_eqb _ _ c.if-c-eq40.false, ne_eqb _ _ c.if-c-eq45.false, eq-eqb _ _ c.if-c-eq35.true, c.un_hex4-x.ensures, c.after.ensures) refl, rw c.read_as-then-c-eq35.ensures (omega arith), rw c.read_as-then-c-eq35.ensures (omega arith))

pub returns-then-c-lt71 : goal.returns-then-c-lt71
unfolding un_plain
returns-then-c-lt71 c = (rw (c.read_as-then-c-lt71.ensures, ← c.byte_at-c.ensures, ne_eqb _ _ c.if-c-eq40.false, ne_eqb _ _ c.if-c-eq45.false, ne_eqb _ _ c.if-c-eq35.false, lt-ltb _ _ c.if-c-lt71.true, c.un_reg-r-then-c-lt71.ensures.0, c.byte_at-then-c-lt71.ensures, c.byte_at-then-c-lt71-2.ensures, c.un_hex4-x-then-c-lt71.ensures) refl, rw c.read_as-then-c-lt71.ensures (omega arith), rw c.read_as-then-c-lt71.ensures (omega arith))

pub returns : goal.returns
unfolding un_plain
returns c = (rw (c.read_as-2.ensures, ← c.byte_at-c.ensures, ne_eqb _ _ c.if-c-eq40.false, ne_eqb _ _ c.if-c-eq45.false, ne_eqb _ _ c.if-c-eq35.false, le-ltb _ _ c.if-c-lt71.false, c.un_reg-r-2.ensures.0, c.byte_at-2.ensures) refl, rw c.read_as-2.ensures (omega arith), rw c.read_as-2.ensures (omega arith))
