use Prim.Native.Nat.{◌-◌}
use mathlib.Core.Path.{◌≡◌, refl, ◌∙◌}
use native.Mathlib.Omega.{arith}
use lib.ListN.{get_or}
use Rattle.hexdigits.proofs.Laws.Laid.{then, wrote_none}
use Rattle.stepline.specs.Shown.{columns}
use Rattle.stepline.proofs.Laws.{column-length, columns-more}
use Rattle.stepline.proofs.put_columns.Goals as goal

pub loop-x-init : goal.loop-x-init
unfolding columns
loop-x-init c = (refl, refl, wrote_none _)

pub column_at-at-requires : goal.column_at-at-requires
column_at-at-requires c = omega (arith, c.loop-x.invariant.0, c.loop-x.invariant.1, c.loop-x-test.true, c.requires)

pub loop-x-preserved : goal.loop-x-preserved
loop-x-preserved c = let w = c.column_at-at.ensures in
    let n = column-length (get_or c.args.values c.loop-x.x-index 0) in (
      c.column_at-at.auto.text ∙ c.loop-x.invariant.0,
      omega (arith, w.count, c.loop-x.invariant.1, n),
      rw (← columns-more c.args.values c.loop-x.x-index) (then _ _ _ _ _ _ _ c.loop-x.invariant.2 w),
    )

pub returns : goal.returns
returns c = let e : c.loop-x.x-index ≡ 15 = omega (arith, c.loop-x-test.false, c.loop-x.auto.x-index-end) in
    rw (← e) c.loop-x.invariant.2
