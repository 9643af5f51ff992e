use mathlib.Core.Path.{◌≡◌, ◌∙◌}
use Prim.Native.Nat.{◌-◌}
use native.Mathlib.Omega.{arith}
use Rattle.assembler.proofs.Sorted.{placed-none, placed-more}
use Rattle.assembler.specs.Source.{line_count}
use Rattle.assembler.proofs.section.place_all.Goals as goal

pub loop-i-init : goal.loop-i-init
loop-i-init c = (c.count-lines.ensures, omega arith, c.requires.1, placed-none _)

pub here-h-requires : goal.here-h-requires
here-h-requires c = (c.requires.0, omega (arith, c.loop-i.invariant.0))

pub text_at-requires : goal.text_at-requires
text_at-requires c = omega (arith, c.loop-i.invariant.0)

pub words_in-o-requires : goal.words_in-o-requires
words_in-o-requires c = c.requires.0

pub enter-n-requires : goal.enter-n-requires
enter-n-requires c = (omega (arith, c.loop-i.invariant.1, c.loop-i.invariant.0, c.requires.0.few), c.loop-i.invariant.2)

pub loop-i-preserved : goal.loop-i-preserved
loop-i-preserved c = let l = c.loop-i in
    let s = c.args.source.now in (
      l.invariant.0,
      omega (arith, c.enter-n.ensures.count, l.invariant.1),
      c.enter-n.ensures.size,
      c.enter-n.ensures.entries ∙ rw l.invariant.3 (placed-more s l.i _ _ _ c.here-h.ensures c.text_at.ensures c.words_in-o.ensures),
    )

pub returns : goal.returns
returns c = let l = c.loop-i in
    let z : l.i ≡ line_count c.args.source.now = omega (arith, l.invariant.0) in
    (rw z at l.invariant.3, omega (arith, l.invariant.1, l.invariant.0, c.requires.0.few), l.invariant.2)
