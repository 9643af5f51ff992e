use mathlib.Core.Path.{◌≡◌, refl, ◌∙◌}
use native.Mathlib.Omega.{arith}
use lib.ListN.{get_or}
use Rattle.hexdigits.proofs.Laws.Laid.{then, wrote_none}
use Rattle.benchline.specs.Line.{fields}
use Rattle.benchline.proofs.Laws.Lengths.{field-length, fields-more}
use Rattle.listing.proofs.put_fields.Goals as goal

pub loop-i-init : goal.loop-i-init
unfolding fields
loop-i-init c = (refl, refl, wrote_none _)

pub bounds-values-i : goal.bounds-values-i
bounds-values-i c = omega (arith, c.loop-i-test.true, c.requires.1)

pub field_at-at-requires : goal.field_at-at-requires
field_at-at-requires c = omega (arith, c.loop-i.invariant.0, c.loop-i.invariant.1, c.loop-i-test.true, c.requires.0, c.requires.1)

pub loop-i-preserved : goal.loop-i-preserved
loop-i-preserved c = let w = c.field_at-at.ensures in
    let n = field-length (get_or c.args.values c.loop-i.i 0) in (
      c.field_at-at.auto.text ∙ c.loop-i.invariant.0,
      omega (arith, w.count),
      rw (← fields-more c.args.values c.loop-i.i) (then _ _ _ _ _ _ _ c.loop-i.invariant.2 w),
    )

pub returns : goal.returns
returns c = let e : c.loop-i.i ≡ c.args.n = omega arith in
    rw (← e) c.loop-i.invariant.2
