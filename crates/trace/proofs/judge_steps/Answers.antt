use mathlib.Core.Path.{◌≡◌, refl, sym, ap, ◌∙◌}
use lib.ListN.{length}
use native.Mathlib.Omega.{arith}
use Rattle.trace.specs.Trace.{entries_of, compared}
use Rattle.trace.specs.Walk.{trail}
use Rattle.trace.proofs.Laws.{told-first, image-more, image-none, judge-more, judge-none}
use Rattle.trace.proofs.judge_steps.Goals as goal

pub loop-i-init : goal.loop-i-init
loop-i-init c = let a = c.args in (
  record { lent = c.requires.lent; whole = refl; few = omega arith },
  ap (λ z. compared 0 (entries_of (trail a.map.now a.lines.now a.s a.image.now)) z) (told-first a.trace.now),
  refl,
)

pub bounds-lines-i : goal.bounds-lines-i
bounds-lines-i c = omega (arith, c.loop-i-test.true)

pub stepped-state-requires : goal.stepped-state-requires
stepped-state-requires c = c.loop-i.invariant.0

pub overflow_cast-i : goal.overflow_cast-i
overflow_cast-i c = omega (arith, c.requires.few, c.loop-i-test.true)

pub loop-i-preserved : goal.loop-i-preserved
loop-i-preserved c = let a = c.args in
    let l = c.loop-i in (
      c.stepped-state.ensures.1,
      judge-more a.map.now a.lines.now l.i l.state l.image a.trace.now _ _ l.found _ _ c.loop-i-test.true c.stepped-state.ensures.0 c.step_verdict.ensures c.or_else-found.ensures ∙ l.invariant.1,
      image-more _ a.lines.now l.i _ _ _ _ c.loop-i-test.true c.stepped-state.ensures.0 ∙ l.invariant.2,
    )

pub overflow_cast-lines : goal.overflow_cast-lines
overflow_cast-lines c = omega (arith, c.requires.few)

pub returns : goal.returns
returns c = let a = c.args in
    let l = c.loop-i in
    let e : l.i ≡ length a.lines.now = omega (arith, c.loop-i-test.false) in (
      judge-none a.map.now a.lines.now l.i l.state l.image a.trace.now l.found _ _ e (rw e c.end_verdict.ensures) c.or_else.ensures ∙ l.invariant.1,
      sym (image-none a.map.now a.lines.now l.i l.state l.image e) ∙ l.invariant.2,
    )
