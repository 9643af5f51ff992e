use Rattle.std.proofs.Common.{refl, arith}
use Rattle.optext.specs.Digits.{un_hex2}
use Rattle.optext.proofs.reading.un_hex2.Goals as goal

pub returns : goal.returns
unfolding un_hex2
returns c = (rw (c.un_hex-a.ensures.0, c.un_hex-b.ensures.0, c.byte_at.ensures, c.byte_at-2.ensures) refl, omega arith)
