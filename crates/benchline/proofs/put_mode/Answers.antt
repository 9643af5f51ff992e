use Rattle.std.proofs.Common.{arith}
use Rattle.hexdigits.proofs.Laws.Laid.{wrote-fits}
use Rattle.benchline.specs.Line.{mode_digit}
use Rattle.benchline.proofs.put_mode.Goals as goal

pub returns : goal.returns
unfolding mode_digit
returns c = rw (← c.hex.ensures) (wrote-fits _ _ _ _ (omega (arith, c.requires)) c.put_text.ensures)
