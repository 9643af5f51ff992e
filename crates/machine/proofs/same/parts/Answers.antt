use Prim.Native.Nat.{◌+◌, ◌-◌}
use native.Mathlib.Omega.{arith}
use mathlib.Core.Path.{◌≡◌, sym, ◌∙◌}
use Rattle.machine.proofs.Laws.Same.{same_more, same_none, part-take, part_length}
use Rattle.machine.proofs.same.parts.Goals as goal

pub loop-done-init : goal.loop-done-init
loop-done-init c = let all : c.args.steps - 0 ≡ c.args.steps = omega arith in
    (omega arith, c.requires.0, record { few = omega arith; among = tt }, rw all)

pub slice_bounds-part-end : goal.slice_bounds-part-end
slice_bounds-part-end c = sym (part_length c.args.lines.now c.args.line c.least-n.result c.requires.1 c.least-n.ensures.1)

pub part-ran-requires : goal.part-ran-requires
part-ran-requires c = let n = part_length c.args.lines.now c.args.line c.least-n.result c.requires.1 c.least-n.ensures.1 in
    (c.loop-done.invariant.1, c.loop-done.invariant.2, omega (arith, n, c.least-n.ensures.1), omega (arith, n, c.least-n.ensures.0, c.loop-done-test.true, c.loop-done.invariant.0))

pub loop-done-smaller : goal.loop-done-smaller
loop-done-smaller c = omega (arith, c.least-n.ensures.2 (omega (arith, c.loop-done-test.true)) (omega arith), c.loop-done-test.true)

pub loop-done-preserved : goal.loop-done-preserved
loop-done-preserved c = let same = rw (part-take c.args.lines.now c.args.line c.least-n.result c.requires.1 c.least-n.ensures.1) at c.part-ran.ensures.same in
    let tallied = rw (part_length c.args.lines.now c.args.line c.least-n.result c.requires.1 c.least-n.ensures.1) at c.part-ran.ensures.tallied in
    (omega (arith, c.least-n.ensures.0, c.loop-done.invariant.0), c.part-ran.ensures.lent, tallied, same_more _ _ _ c.loop-done.done c.least-n.result (c.args.steps - (c.loop-done.done + c.least-n.result)) (c.args.steps - c.loop-done.done) _ _ _ _ (omega (arith, c.least-n.ensures.0, c.loop-done.invariant.0)) same ∙ c.loop-done.invariant.3)

pub returns : goal.returns
returns c = record {
  same = sym (same_none _ _ c.args.line _ (c.args.steps - c.loop-done.done) _ _ (omega (arith, c.loop-done-test.false))) ∙ c.loop-done.invariant.3;
  lent = c.loop-done.invariant.1;
}
