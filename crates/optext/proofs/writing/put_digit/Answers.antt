use Rattle.std.proofs.Common.{arith}
use Rattle.hexdigits.proofs.Laws.Laid.{wrote-fits}
use Rattle.optext.proofs.writing.put_digit.Goals as goal

pub returns : goal.returns
returns c = rw (← c.hex.ensures) (wrote-fits _ _ _ _ (omega (arith, c.requires)) c.put_text.ensures)
