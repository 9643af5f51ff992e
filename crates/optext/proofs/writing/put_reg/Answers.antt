use Rattle.std.proofs.Common.{arith}
use Rattle.hexdigits.proofs.Laws.Laid.{wrote-fits}
use Rattle.optext.specs.Line.{reg_text}
use Rattle.optext.proofs.writing.put_reg.Goals as goal

pub returns : goal.returns
unfolding reg_text
returns c = rw (← c.reg_a.ensures, ← c.reg_b.ensures) (wrote-fits _ _ _ _ (omega (arith, c.requires.0)) c.put_text.ensures)
