use Rattle.hexdigits.specs.Digits.{hex4}
use Rattle.hexdigits.proofs.put_hex4.Goals as goal

pub returns : goal.returns
unfolding hex4
returns c = rw (← c.hex.ensures, ← c.hex-2.ensures, ← c.hex-3.ensures, ← c.hex-4.ensures) c.put_text.ensures
