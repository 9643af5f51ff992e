use mathlib.Core.Path.{◌≡◌, refl, sym, ◌∙◌}
use Prim.Native.Nat.{◌-◌}
use native.Mathlib.Omega.{arith}
use Rattle.optext.proofs.Laws.Choose.{first_found, first_next, first-end}
use Rattle.patchline.proofs.Laws.Search.{first-start}
use Rattle.assembler.specs.Source.{overlaps}
use Rattle.assembler.proofs.source.overlapped.Goals as goal

pub loop-k-init : goal.loop-k-init
loop-k-init c = (first-start (overlaps c.args.source.now c.args.i) c.args.i _ refl)

pub overlap-requires : goal.overlap-requires
overlap-requires c = (c.requires.0, c.requires.1, c.requires.2, omega (arith, c.requires.2))

pub returns-then-overlap : goal.returns-then-overlap
returns-then-overlap c = let l = c.loop-k in first_found (overlaps c.args.source.now c.args.i) c.args.i l.k _ l.invariant c.loop-k-test.true (sym c.overlap.ensures ∙ c.if-overlap.true)

pub loop-k-preserved : goal.loop-k-preserved
loop-k-preserved c = let l = c.loop-k in first_next (overlaps c.args.source.now c.args.i) c.args.i l.k _ l.invariant c.loop-k-test.true (sym c.overlap.ensures ∙ c.if-overlap.false)

pub returns : goal.returns
returns c = let l = c.loop-k in let z : l.k ≡ c.args.i = omega arith in sym z ∙ first-end (overlaps c.args.source.now c.args.i) c.args.i l.k _ l.invariant c.loop-k-test.false
