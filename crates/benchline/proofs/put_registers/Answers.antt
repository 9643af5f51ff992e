use Rattle.hexdigits.proofs.Laws.Laid.{then, wrote_none}
use Rattle.benchline.proofs.Laws.Lengths.{field-length, fields-more}
use Rattle.benchline.specs.Line.{fields}
use lib.ListN.{get_or}
use native.Mathlib.Omega.{arith}
use mathlib.Core.Path.{◌≡◌, refl, ◌∙◌}
use Rattle.benchline.proofs.put_registers.Goals as goal

pub loop-i-init : goal.loop-i-init
unfolding fields
loop-i-init c = (refl, refl, wrote_none _)

pub field_at-at-requires : goal.field_at-at-requires
field_at-at-requires c = omega arith

pub loop-i-preserved : goal.loop-i-preserved
loop-i-preserved c = let w = c.field_at-at.ensures in
    let n = field-length (get_or c.args.regs c.loop-i.i 0) in (
      c.field_at-at.auto.text ∙ c.loop-i.invariant.0,
      omega (arith, w.count),
      rw (← fields-more c.args.regs c.loop-i.i) (then _ _ _ _ _ _ _ c.loop-i.invariant.2 w),
    )

pub returns : goal.returns
returns c = let e : c.loop-i.i ≡ 8 = omega arith in
    rw (← e) c.loop-i.invariant.2
