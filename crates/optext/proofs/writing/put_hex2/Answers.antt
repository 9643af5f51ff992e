use Rattle.std.proofs.Common.{arith}
use Rattle.hexdigits.proofs.Laws.Laid.{wrote-fits}
use Rattle.hexdigits.specs.Digits.{hex2}
use Rattle.optext.proofs.writing.put_hex2.Goals as goal

pub returns : goal.returns
unfolding hex2
returns c = rw (← c.hex.ensures, ← c.hex-2.ensures) (wrote-fits _ _ _ _ (omega (arith, c.requires)) c.put_text.ensures)
