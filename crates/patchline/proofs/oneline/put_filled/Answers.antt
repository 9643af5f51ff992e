use mathlib.Core.Path.{◌≡◌, ap, ◌∙◌}
use native.Mathlib.Omega.{arith}
use Rattle.patchline.proofs.Laws.{part-le, filled-in-le, alias-le, first-in-le}
use lib.ListN.{length}
use Rattle.patchline.specs.Line.{filled}
use Rattle.hexdigits.proofs.Laws.Laid.{then, wrote-fits}
use Rattle.patchline.proofs.oneline.put_filled.Goals as goal

pub put_operand_at-m-requires : goal.put_operand_at-m-requires
put_operand_at-m-requires c = let w = wrote-fits _ _ _ _ (rw c.alias.ensures (omega (arith, alias-le c.part.result.now, part-le 0 c.operands_at.result c.args.t.now, ap length c.part.ensures, c.requires.0, c.requires.1))) c.put_text-n.ensures in
    let k : length c.put_text-n.new.out ≡ length c.args.out.now = c.put_text-n.auto.out in
    let h = part-le 0 c.operands_at.result c.args.t.now in
    let g = alias-le c.part.result.now in
    let f = first-in-le c.args.t.now in
    (omega (arith, w.count ∙ ap length c.alias.ensures, ap length c.part.ensures, c.requires.0, c.requires.1), omega (arith, ap length c.first.ensures, c.requires.1), c.requires.2)

pub put_tail_at-requires : goal.put_tail_at-requires
put_tail_at-requires c = let w = wrote-fits _ _ _ _ (rw c.alias.ensures (omega (arith, alias-le c.part.result.now, part-le 0 c.operands_at.result c.args.t.now, ap length c.part.ensures, c.requires.0, c.requires.1))) c.put_text-n.ensures in
    let k : length c.put_text-n.new.out ≡ length c.args.out.now = c.put_text-n.auto.out in
    let k2 : length c.put_operand_at-m.new.out ≡ length c.put_text-n.new.out = c.put_operand_at-m.auto.out in
    let h = part-le 0 c.operands_at.result c.args.t.now in
    let g = alias-le c.part.result.now in
    let f = first-in-le c.args.t.now in
    let e = filled-in-le c.args.d.now c.first.result.now in
    (omega (arith, w.count ∙ ap length c.alias.ensures, c.put_operand_at-m.ensures.count, ap length c.part.ensures, ap length c.first.ensures, c.requires.0, c.requires.1, c.requires.2), c.requires.1, c.requires.2)

pub returns : goal.returns
unfolding filled
returns c = rw (← c.operands_at.ensures.0, ← c.part.ensures, ← c.alias.ensures, ← c.first.ensures) (then _ _ _ _ _ _ _ (then _ _ _ _ _ _ _ (wrote-fits _ _ _ _ (rw c.alias.ensures (omega (arith, alias-le c.part.result.now, part-le 0 c.operands_at.result c.args.t.now, ap length c.part.ensures, c.requires.0, c.requires.1))) c.put_text-n.ensures) c.put_operand_at-m.ensures) c.put_tail_at.ensures)
