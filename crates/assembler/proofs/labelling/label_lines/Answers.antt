use mathlib.Core.Path.{◌∙◌}
use Rattle.assembler.specs.declared.source.Fault.TheVariants.{Text, Given}
use Rattle.assembler.specs.Labels.{label_faults}
use Rattle.assembler.proofs.Checked.{stopped, passed, finished}
use Rattle.assembler.proofs.labelling.label_lines.Goals as goal

pub returns-then-text-n : goal.returns-then-text-n
unfolding label_faults
returns-then-text-n c = let a = c.args in
    stopped a.source.now a.out.now _ _ c.count-n.ensures Text _ _ c.lowest_line-text.ensures.0 c.if-text-n.true

pub returns-then-given-n : goal.returns-then-given-n
unfolding label_faults
returns-then-given-n c = let a = c.args in
    let e = c.count-n.ensures in
    stopped a.source.now a.out.now _ _ e Given _ _ c.lowest_line-given.ensures.0 c.if-given-n.true
    ∙ passed a.source.now a.out.now _ _ e Text _ _ c.lowest_line-text.ensures.0 c.if-text-n.false

pub returns : goal.returns
unfolding label_faults
returns c = let a = c.args in
    let e = c.count-n.ensures in
    finished a.source.now a.out.now _ _ _ c.put_labels-length.ensures.0
    ∙ passed a.source.now a.out.now _ _ e Given _ _ c.lowest_line-given.ensures.0 c.if-given-n.false
    ∙ passed a.source.now a.out.now _ _ e Text _ _ c.lowest_line-text.ensures.0 c.if-text-n.false
