use Rattle.std.proofs.Common.{refl, arith, le-ltb, lt-ltb}
use Rattle.optext.specs.Guess.{addressed}
use Rattle.optext.proofs.reading.un_addr.Goals as goal

pub returns-then-o-lt8 : goal.returns-then-o-lt8
unfolding addressed
returns-then-o-lt8 c = (rw (c.read_as.ensures, ← c.un_mode-o.ensures.0, lt-ltb _ _ c.if-o-lt8.true) refl, rw c.read_as.ensures (omega arith))

pub returns : goal.returns
unfolding addressed
returns c = (rw (← c.un_mode-o.ensures.0, le-ltb _ _ c.if-o-lt8.false) refl, omega arith)
