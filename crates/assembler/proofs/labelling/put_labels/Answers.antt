use mathlib.Core.Path.{◌≡◌, refl, ap, ◌∙◌}
use Prim.Native.Nat.{◌-◌}
use native.Mathlib.Omega.{arith}
use Rattle.patchline.specs.Text.{label_of}
use Rattle.assembler.specs.Source.{line_count}
use Rattle.assembler.proofs.Laws.Labels.{labels_length, labels-none, labels-more, labels-all}
use Rattle.assembler.proofs.labelling.put_labels.Goals as goal

pub loop-i-init : goal.loop-i-init
loop-i-init c = (c.count-lines.ensures, refl, labels-none c.args.source.now c.args.out.now)

pub line_at-requires : goal.line_at-requires
line_at-requires c = omega (arith, c.loop-i.invariant.0, c.loop-i-test.true)

pub here-requires : goal.here-requires
here-requires c = (c.requires.0, omega (arith, c.loop-i.invariant.0, c.loop-i-test.true))

pub line_label_at-at-requires : goal.line_label_at-at-requires
line_label_at-at-requires c = let l = c.loop-i in
    omega (arith, l.invariant.2.count, labels_length c.args.source.now l.i, l.invariant.1, l.invariant.0, c.loop-i-test.true, c.requires.1, c.requires.0.few)

pub loop-i-preserved : goal.loop-i-preserved
loop-i-preserved c = let l = c.loop-i in
    let s = c.args.source.now in
    (l.invariant.0, c.line_label_at-at.auto.out ∙ l.invariant.1, labels-more s c.label-name.result.now _ _ _ l.i _ _ _ (c.label-name.ensures ∙ ap label_of c.line_at.ensures) c.here.ensures l.invariant.2 c.line_label_at-at.ensures)

pub returns : goal.returns
returns c = let l = c.loop-i in
    let s = c.args.source.now in
    let all : l.i ≡ line_count s = omega (arith, l.invariant.0, c.loop-i-test.false) in
    (labels-all s _ _ l.i _ all l.invariant.2, omega (arith, l.invariant.2.count, labels_length s l.i, all, c.requires.0.few))
