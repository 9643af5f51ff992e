use Rattle.std.proofs.Common.{arith}
use Rattle.hexdigits.proofs.Laws.Laid.{wrote-fits}
use Rattle.hexdigits.specs.Digits.{hex4}
use Rattle.optext.specs.Line.{up_text, literal_text, down_text, offset_text}
use Rattle.optext.proofs.Laws.Forms.{plain-reg, plain-pc, plain-up, plain_down, plain-offset}
use Rattle.optext.proofs.writing.put_plain.Goals as goal

pub returns-then-p-eq0 : goal.returns-then-p-eq0
unfolding hex4 up_text literal_text down_text offset_text
returns-then-p-eq0 c = rw (plain-reg _ _ _ c.if-p-eq0.true) c.put_reg.ensures

pub returns-then-p-eq2 : goal.returns-then-p-eq2
unfolding hex4 up_text literal_text down_text offset_text
returns-then-p-eq2 c = rw (plain_down _ _ _ c.if-p-eq2.true, ← c.reg_a-a.ensures, ← c.reg_b-b.ensures) (wrote-fits _ _ _ _ (omega (arith, c.requires.0)) c.put_text.ensures)

pub returns-then-r-eq7 : goal.returns-then-r-eq7
unfolding hex4 up_text literal_text down_text offset_text
returns-then-r-eq7 c = rw (plain-pc _ _ _ c.if-p-eq1.true c.if-r-eq7.true, ← c.hex-d.ensures, ← c.hex-e.ensures, ← c.hex-f.ensures, ← c.hex-g.ensures) (wrote-fits _ _ _ _ (omega (arith, c.requires.0)) c.put_text-then-r-eq7.ensures)

pub returns-then-p-eq1 : goal.returns-then-p-eq1
unfolding hex4 up_text literal_text down_text offset_text
returns-then-p-eq1 c = rw (plain-up _ _ _ c.if-p-eq1.true c.if-r-eq7.false, ← c.reg_a-a.ensures, ← c.reg_b-b.ensures) (wrote-fits _ _ _ _ (omega (arith, c.requires.0)) c.put_text-then-p-eq1.ensures)

pub returns : goal.returns
unfolding hex4 up_text literal_text down_text offset_text
returns c = rw (plain-offset _ _ _ c.if-p-eq0.false c.if-p-eq1.false c.if-p-eq2.false, ← c.reg_a-a.ensures, ← c.reg_b-b.ensures, ← c.hex-d.ensures, ← c.hex-e.ensures, ← c.hex-f.ensures, ← c.hex-g.ensures) (wrote-fits _ _ _ _ (omega (arith, c.requires.0)) c.put_text-2.ensures)
