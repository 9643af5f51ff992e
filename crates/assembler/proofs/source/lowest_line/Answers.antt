use mathlib.Core.Path.{◌≡◌, refl, sym, ◌∙◌}
use Prim.Native.Nat.{◌-◌}
use native.Mathlib.Omega.{arith}
use Rattle.optext.proofs.Laws.Choose.{first_found, first_next, first-end}
use Rattle.patchline.proofs.Laws.Search.{first-start}
use Rattle.assembler.specs.Source.{line_count, fails, lowest}
use Rattle.assembler.proofs.source.lowest_line.Goals as goal

pub loop-i-init : goal.loop-i-init
unfolding lowest
loop-i-init c = (c.count-n.ensures, rw c.count-n.ensures (first-start (fails c.args.f c.args.source.now) (line_count c.args.source.now) _ refl))

pub fail-requires : goal.fail-requires
fail-requires c = (c.requires.0, c.requires.1, omega (arith, c.loop-i.invariant.0))

pub returns-then-fail : goal.returns-then-fail
returns-then-fail c = let l = c.loop-i in (first_found (fails c.args.f c.args.source.now) c.count-n.result l.i _ l.invariant.1 c.loop-i-test.true (sym c.fail.ensures ∙ c.if-fail.true), omega (arith, l.invariant.0))

pub loop-i-preserved : goal.loop-i-preserved
loop-i-preserved c = let l = c.loop-i in (l.invariant.0, first_next (fails c.args.f c.args.source.now) c.count-n.result l.i _ l.invariant.1 c.loop-i-test.true (sym c.fail.ensures ∙ c.if-fail.false))

pub returns : goal.returns
returns c = let l = c.loop-i in let z : l.i ≡ c.count-n.result = omega arith in (sym z ∙ first-end (fails c.args.f c.args.source.now) c.count-n.result l.i _ l.invariant.1 c.loop-i-test.false, omega (arith, l.invariant.0))
