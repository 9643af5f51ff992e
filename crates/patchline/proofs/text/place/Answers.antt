use Rattle.std.proofs.Common.{◌≡◌, ◌≤◌, max, length, refl, ◌∙◌, arith, eq-eqb, ne_eqb}
use Rattle.std.proofs.Math.Nat.{le-max_left, le-max_right, max-le}
use Rattle.optext.proofs.Laws.Choose.{first_found, first_next, first-end}
use Rattle.patchline.specs.Text.{is_at, find_from}
use Rattle.patchline.proofs.text.place.Goals as goal

pub loop-i-init : goal.loop-i-init
unfolding find_from
loop-i-init c = (refl, le-max_left _ _)

pub returns-then-t-i : goal.returns-then-t-i
unfolding is_at
returns-then-t-i c = let l = c.loop-i in first_found (is_at c.args.c c.args.t.now) (length c.args.t.now) l.i _ l.invariant.0 c.loop-i-test.true (eq-eqb _ _ c.if-t-i.true)

pub loop-i-preserved : goal.loop-i-preserved
unfolding is_at
loop-i-preserved c = let l = c.loop-i in
    (first_next (is_at c.args.c c.args.t.now) (length c.args.t.now) l.i _ l.invariant.0 c.loop-i-test.true (ne_eqb _ _ c.if-t-i.false), omega (arith, le-max_right c.args.from (length c.args.t.now), c.loop-i-test.true))

pub returns : goal.returns
returns c = let l = c.loop-i in
    let h : max c.args.from (length c.args.t.now) ≤ l.i = max-le l.auto.i c.loop-i-test.false in
    let e : max c.args.from (length c.args.t.now) ≡ l.i = omega (arith, h, l.invariant.1) in
    c.max.ensures ∙ e ∙ first-end (is_at c.args.c c.args.t.now) (length c.args.t.now) l.i _ l.invariant.0 c.loop-i-test.false
