use native.Mathlib.Omega.{arith}
use mathlib.Core.Path.{refl, sym, ◌∙◌}
use Rattle.machine.proofs.Laws.Until.{onto-none, onto-more, steps-more, steps-end, steps-over, ended}
use Rattle.machine.proofs.early.until_on.Goals as goal

pub loop-stage-init : goal.loop-stage-init
loop-stage-init c = (omega arith, omega arith, record { lent = c.requires.0; whole = refl; few = omega arith }, onto-none _ _ _ _ _, omega arith)

pub stride-stage-requires : goal.stride-stage-requires
stride-stage-requires c = (c.loop-stage.invariant.2, c.requires.1, c.loop-stage-test.true, c.loop-stage.invariant.1)

pub stop_at-requires : goal.stop_at-requires
stop_at-requires c = omega (arith, c.stride-stage.ensures.next, c.loop-stage-test.true, c.requires.1)

pub returns-then-ends : goal.returns-then-ends
returns-then-ends c = let l = c.loop-stage-test.true in
    let g = c.stride-stage.ensures in
    ended _ _ _ _ _ _ _ _ _ (onto-more _ _ _ _ _ _ _ _ _ c.loop-stage.invariant.3 l g) (steps-end _ _ _ _ _ _ _ _ _ l g c.loop-stage.invariant.4 (sym c.ends.ensures ∙ c.if-ends.true)) c.stop_at.ensures g.board.lent

pub loop-stage-smaller : goal.loop-stage-smaller
loop-stage-smaller c = omega (arith, c.stride-stage.ensures.next, c.loop-stage-test.true)

pub loop-stage-preserved : goal.loop-stage-preserved
loop-stage-preserved c = let l = c.loop-stage-test.true in
    let g = c.stride-stage.ensures in
    (omega (arith, g.next, l), g.few, g.board, onto-more _ _ _ _ _ _ _ _ _ c.loop-stage.invariant.3 l g, steps-more _ _ _ _ _ _ _ _ _ l g c.loop-stage.invariant.4 (sym c.ends.ensures ∙ c.if-ends.false))

pub stop_at-requires-2 : goal.stop_at-requires-2
stop_at-requires-2 c = omega (arith, c.loop-stage.invariant.0, c.requires.1)

pub returns : goal.returns
returns c = ended _ _ _ _ _ _ _ _ _ c.loop-stage.invariant.3 (steps-over _ _ c.args.lines.now _ _ c.loop-stage.stage _ (omega (arith, c.loop-stage-test.false, c.loop-stage.invariant.0)) c.loop-stage.invariant.4) c.stop_at-2.ensures c.loop-stage.invariant.2.lent
