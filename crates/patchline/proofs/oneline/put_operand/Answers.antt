use mathlib.Core.Path.{◌≡◌, ap, sym, ◌∙◌}
use native.Mathlib.Omega.{arith}
use Rattle.patchline.proofs.Laws.{part-few, filled-label, filled-plain}
use Rattle.patchline.specs.Text.{is_name}
use lib.ListN.{length}
use Rattle.hexdigits.proofs.Laws.Laid.{then, wrote-fits}
use Rattle.patchline.proofs.oneline.put_operand.Goals as goal

pub put_at-requires : goal.put_at-requires
put_at-requires c = let w = wrote-fits _ _ _ _ (omega (arith, part-few c.at-n.result c.args.o.now, ap length c.part.ensures, c.at-n.ensures.1, c.requires.0)) c.put_text-m.ensures in
    let h = part-few c.at-n.result c.args.o.now in let k : length c.put_text-m.new.out ≡ length c.args.out.now = c.put_text-m.auto.out in omega (arith, w.count, ap length c.part.ensures, c.at-n.ensures.1, c.requires.0, c.requires.2)

pub returns-then-is_name : goal.returns-then-is_name
returns-then-is_name c = rw (filled-label _ _ (ap is_name (sym c.bare.ensures) ∙ sym c.is_name.ensures ∙ c.if-is_name.true), ← c.at-n.ensures.0, ← c.part.ensures) (then _ _ _ _ _ _ _ (wrote-fits _ _ _ _ (omega (arith, part-few c.at-n.result c.args.o.now, ap length c.part.ensures, c.at-n.ensures.1, c.requires.0)) c.put_text-m.ensures) c.put_at.ensures)

pub returns : goal.returns
returns c = rw (filled-plain _ _ (ap is_name (sym c.bare.ensures) ∙ sym c.is_name.ensures ∙ c.if-is_name.false)) (wrote-fits _ _ _ _ (omega (arith, c.requires.0, c.requires.1)) c.put_text.ensures)
