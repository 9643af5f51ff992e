use Rattle.hexdigits.proofs.Laws.Laid.{then, wrote-fits, written_is, written_none}
use Rattle.hexdigits.specs.Digits.{hex4}
use Rattle.benchline.specs.Line.{field}
use native.Mathlib.Omega.{arith}
use Rattle.benchline.proofs.put_field.Goals as goal

pub space_at-requires : goal.space_at-requires
unfolding hex4
space_at-requires c = let w = wrote-fits _ _ _ _ (omega (arith, c.if-out-lt5.false)) c.put_hex4-n.ensures in
    omega (arith, w.count)

pub returns-then-out-lt5 : goal.returns-then-out-lt5
unfolding field hex4
returns-then-out-lt5 c = written_none _ _ (omega (arith, c.if-out-lt5.true))

pub returns : goal.returns
unfolding field hex4
returns c = let room = c.if-out-lt5.false in
    written_is _ _ _ _ (omega (arith, room)) (then _ _ _ _ _ _ _ (wrote-fits _ _ _ _ (omega (arith, room)) c.put_hex4-n.ensures) c.space_at.ensures)
