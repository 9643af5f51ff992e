use Rattle.std.proofs.Common.{refl}
use Rattle.optext.specs.Digits.{un_hex4}
use Rattle.optext.proofs.reading.un_hex4.Goals as goal

pub returns : goal.returns
unfolding un_hex4
returns c = rw (c.un_hex-a.ensures.0, c.un_hex-b.ensures.0, c.un_hex-c.ensures.0, c.un_hex-d.ensures.0, c.byte_at.ensures, c.byte_at-2.ensures, c.byte_at-3.ensures, c.byte_at-4.ensures) refl
