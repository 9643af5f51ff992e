use mathlib.Core.Path.{◌≡◌, refl, sym, ◌∙◌}
use Prim.Native.Nat.{◌-◌}
use native.Mathlib.Omega.{arith}
use Rattle.optext.proofs.Laws.Choose.{first_found, first_next, first-end}
use Rattle.patchline.proofs.Laws.Search.{first-start}
use Rattle.assembler.specs.Source.{line_count, gives_at, giver_of}
use Rattle.assembler.proofs.source.giver.Goals as goal

pub loop-i-init : goal.loop-i-init
unfolding giver_of
loop-i-init c = (c.count-n.ensures, rw c.count-n.ensures (first-start (gives_at c.args.source.now c.args.u.now) (line_count c.args.source.now) _ refl))

pub gives_at-requires : goal.gives_at-requires
gives_at-requires c = omega (arith, c.loop-i.invariant.0)

pub returns-then-gives_at : goal.returns-then-gives_at
returns-then-gives_at c = let l = c.loop-i in (first_found (gives_at c.args.source.now c.args.u.now) c.count-n.result l.i _ l.invariant.1 c.loop-i-test.true (sym c.gives_at.ensures ∙ c.if-gives_at.true), omega (arith, l.invariant.0))

pub loop-i-preserved : goal.loop-i-preserved
loop-i-preserved c = let l = c.loop-i in (l.invariant.0, first_next (gives_at c.args.source.now c.args.u.now) c.count-n.result l.i _ l.invariant.1 c.loop-i-test.true (sym c.gives_at.ensures ∙ c.if-gives_at.false))

pub returns : goal.returns
returns c = let l = c.loop-i in let z : l.i ≡ c.count-n.result = omega arith in (sym z ∙ first-end (gives_at c.args.source.now c.args.u.now) c.count-n.result l.i _ l.invariant.1 c.loop-i-test.false, omega (arith, l.invariant.0))
