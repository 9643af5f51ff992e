use mathlib.Core.Path.{refl, sym, ◌∙◌}
use native.Mathlib.Omega.{arith}
use Rattle.trace.specs.Trace.{fields_from}
use Rattle.trace.proofs.Laws.Bytes.{words-length}
use Rattle.trace.proofs.Laws.{words-at, differ-more, differ-here, differ-end}
use Rattle.trace.proofs.entry_verdict.Goals as goal

pub loop-field-init : goal.loop-field-init
loop-field-init c = refl

pub overflow_mul-field : goal.overflow_mul-field
overflow_mul-field c = omega arith

pub overflow_add-at : goal.overflow_add-at
overflow_add-at c = omega arith

pub overflow_cast-result : goal.overflow_cast-result
overflow_cast-result c = omega arith

pub returns-then-right-word_at : goal.returns-then-right-word_at
returns-then-right-word_at c = let told = words-length c.args.trace.now c.args.at 10 in
    differ-here c.args.step c.loop-field.field c.args.entry (fields_from c.args.trace.now c.args.at 10) (omega arith) (omega arith)
    (λ e. c.if-right-word_at.true (e ∙ words-at c.args.trace.now c.args.at 10 c.loop-field.field (omega arith) ∙ sym c.word_at.ensures))
    ∙ c.loop-field.invariant

pub loop-field-preserved : goal.loop-field-preserved
loop-field-preserved c = let told = words-length c.args.trace.now c.args.at 10 in
    differ-more c.args.step c.loop-field.field c.args.entry (fields_from c.args.trace.now c.args.at 10) (omega arith) (omega arith)
    (c.if-right-word_at.false ∙ c.word_at.ensures ∙ sym (words-at c.args.trace.now c.args.at 10 c.loop-field.field (omega arith)))
    ∙ c.loop-field.invariant

pub returns : goal.returns
returns c = differ-end c.args.step c.loop-field.field c.args.entry (fields_from c.args.trace.now c.args.at 10) (omega arith) ∙ c.loop-field.invariant
