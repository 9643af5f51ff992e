use mathlib.Core.Path.{refl, sym, ◌∙◌}
use native.Mathlib.Omega.{arith}
use Rattle.trace.proofs.Laws.Bytes.{right-ten}
use Rattle.trace.proofs.Laws.{image-more, image-none, put_step, put_last}
use Rattle.trace.proofs.put_steps.Goals as goal

pub loop-i-init : goal.loop-i-init
loop-i-init c = (record { lent = c.requires.lent; whole = refl; few = omega arith }, refl, refl, refl)

pub bounds-lines-i : goal.bounds-lines-i
bounds-lines-i c = omega (arith, c.loop-i-test.true)

pub stepped-state-requires : goal.stepped-state-requires
stepped-state-requires c = c.loop-i.invariant.0

pub overflow_mul-i : goal.overflow_mul-i
overflow_mul-i c = omega (arith, c.requires.few, c.loop-i-test.true)

pub overflow_add-i : goal.overflow_add-i
overflow_add-i c = omega (arith, c.requires.few, c.loop-i-test.true)

pub put_entry-requires : goal.put_entry-requires
put_entry-requires c = (omega (arith, c.requires.few, c.loop-i-test.true), rw c.entry_of.ensures (right-ten _))

pub loop-i-preserved : goal.loop-i-preserved
loop-i-preserved c = let a = c.args in
    let l = c.loop-i in (
      c.stepped-state.ensures.1,
      c.put_entry.auto.out ∙ l.invariant.1,
      put_step _ a.lines.now l.i _ _ _ _ _ _ _ c.loop-i-test.true c.stepped-state.ensures.0 c.entry_of.ensures c.put_entry.ensures ∙ l.invariant.2,
      image-more _ a.lines.now l.i _ _ _ _ c.loop-i-test.true c.stepped-state.ensures.0 ∙ l.invariant.3,
    )

pub returns : goal.returns
returns c = let a = c.args in
    let l = c.loop-i in (
      put_last a.map.now a.lines.now l.i l.state l.image l.out (omega (arith, c.loop-i-test.false)) ∙ l.invariant.2,
      sym (image-none a.map.now a.lines.now l.i l.state l.image (omega (arith, c.loop-i-test.false))) ∙ l.invariant.3,
    )
