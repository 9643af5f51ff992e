use mathlib.Core.Path.{◌∙◌}
use native.Mathlib.Omega.{arith}
use Rattle.assembler.specs.Answer.{faults}
use Rattle.assembler.specs.declared.source.Fault.TheVariants.{Text, Given, Missing, Place, Far}
use Rattle.assembler.proofs.Sorted.{section-few}
use Rattle.assembler.proofs.Checked.{stopped, passed, finished, section-is}
use borrow.Author.Rules.{rules}
use Rattle.assembler.proofs.assemble_lines.Goals as goal

pub survey-requires : goal.survey-requires
survey-requires c = (c.requires.0, search rules, search rules)

pub overflow_cast-result : goal.overflow_cast-result
overflow_cast-result c = omega (arith, c.if-text-n.true, c.count-n.ensures, c.requires.0)

pub returns-then-text-n : goal.returns-then-text-n
unfolding faults
returns-then-text-n c = let a = c.args in
    let e = c.count-n.ensures in
    stopped a.source.now a.out.now _ _ e Text _ _ c.lowest_line-text.ensures.0 c.if-text-n.true

pub overflow_cast-result-then-given-n : goal.overflow_cast-result-then-given-n
overflow_cast-result-then-given-n c = omega (arith, c.if-given-n.true, c.count-n.ensures, c.requires.0)

pub returns-then-given-n : goal.returns-then-given-n
unfolding faults
returns-then-given-n c = let a = c.args in
    let e = c.count-n.ensures in
    stopped a.source.now a.out.now _ _ e Given _ _ c.lowest_line-given.ensures.0 c.if-given-n.true
    ∙ passed a.source.now a.out.now _ _ e Text _ _ c.lowest_line-text.ensures.0 c.if-text-n.false

pub overflow_cast-result-then-missing-n : goal.overflow_cast-result-then-missing-n
overflow_cast-result-then-missing-n c = omega (arith, c.if-missing-n.true, c.count-n.ensures, c.requires.0)

pub returns-then-missing-n : goal.returns-then-missing-n
unfolding faults
returns-then-missing-n c = let a = c.args in
    let e = c.count-n.ensures in
    stopped a.source.now a.out.now _ _ e Missing _ _ c.lowest_line-missing.ensures.0 c.if-missing-n.true
    ∙ passed a.source.now a.out.now _ _ e Given _ _ c.lowest_line-given.ensures.0 c.if-given-n.false
    ∙ passed a.source.now a.out.now _ _ e Text _ _ c.lowest_line-text.ensures.0 c.if-text-n.false

pub overflow_cast-result-then-place-n : goal.overflow_cast-result-then-place-n
overflow_cast-result-then-place-n c = omega (arith, c.if-place-n.true, c.count-n.ensures, c.requires.0)

pub returns-then-place-n : goal.returns-then-place-n
unfolding faults
returns-then-place-n c = let a = c.args in
    let e = c.count-n.ensures in
    stopped a.source.now a.out.now _ _ e Place _ _ c.lowest_line-place.ensures.0 c.if-place-n.true
    ∙ passed a.source.now a.out.now _ _ e Missing _ _ c.lowest_line-missing.ensures.0 c.if-missing-n.false
    ∙ passed a.source.now a.out.now _ _ e Given _ _ c.lowest_line-given.ensures.0 c.if-given-n.false
    ∙ passed a.source.now a.out.now _ _ e Text _ _ c.lowest_line-text.ensures.0 c.if-text-n.false

pub overflow_cast-result-then-far-n : goal.overflow_cast-result-then-far-n
overflow_cast-result-then-far-n c = omega (arith, c.if-far-n.true, c.count-n.ensures, c.requires.0)

pub returns-then-far-n : goal.returns-then-far-n
unfolding faults
returns-then-far-n c = let a = c.args in
    let e = c.count-n.ensures in
    stopped a.source.now a.out.now _ _ e Far _ _ c.lowest_line-far.ensures.0 c.if-far-n.true
    ∙ passed a.source.now a.out.now _ _ e Place _ _ c.lowest_line-place.ensures.0 c.if-place-n.false
    ∙ passed a.source.now a.out.now _ _ e Missing _ _ c.lowest_line-missing.ensures.0 c.if-missing-n.false
    ∙ passed a.source.now a.out.now _ _ e Given _ _ c.lowest_line-given.ensures.0 c.if-given-n.false
    ∙ passed a.source.now a.out.now _ _ e Text _ _ c.lowest_line-text.ensures.0 c.if-text-n.false

pub place_all-words-requires : goal.place_all-words-requires
place_all-words-requires c = (c.survey.ensures.0, search rules)

pub put_section-length-requires : goal.put_section-length-requires
put_section-length-requires c = (c.requires.1, c.place_all-words.ensures.1, c.place_all-words.ensures.2)

pub overflow_cast-result-2 : goal.overflow_cast-result-2
overflow_cast-result-2 c = omega (arith, c.put_section-length.ensures.count, section-few c.place_all-words.result c.place_all-words.new.table, c.place_all-words.ensures.1)

pub returns : goal.returns
unfolding faults
returns c = let a = c.args in
    let e = c.count-n.ensures in
    finished a.source.now a.out.now _ _ _ (section-is a.source.now a.out.now c.place_all-words.new.table _ c.place_all-words.result _ c.place_all-words.ensures.0 c.put_section-length.ensures)
    ∙ passed a.source.now a.out.now _ _ e Far _ _ c.lowest_line-far.ensures.0 c.if-far-n.false
    ∙ passed a.source.now a.out.now _ _ e Place _ _ c.lowest_line-place.ensures.0 c.if-place-n.false
    ∙ passed a.source.now a.out.now _ _ e Missing _ _ c.lowest_line-missing.ensures.0 c.if-missing-n.false
    ∙ passed a.source.now a.out.now _ _ e Given _ _ c.lowest_line-given.ensures.0 c.if-given-n.false
    ∙ passed a.source.now a.out.now _ _ e Text _ _ c.lowest_line-text.ensures.0 c.if-text-n.false
