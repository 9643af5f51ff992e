use Rattle.std.proofs.Common.{◌≡◌, ℕ, refl, ap, sym, ◌∙◌, arith, eqb-true}
use borrow.Author.Tests.{eqb-false}
use Rattle.patchline.proofs.Laws.{said-empty, said_plain, said-org, said-word, said-labels, said-with-le, given_op, given-some, given-none, op_or-le, some-first}
use Rattle.optext.specs.declared.Op.{Op}
use Rattle.patchline.specs.Line.{op, op_in, says}
use Rattle.optext.specs.Digits.{un_hex4}
use Rattle.patchline.specs.declared.oneline.How.TheVariants.{Origin, Plain}
use Rattle.patchline.proofs.oneline.meaning.Goals as goal

pub returns-then-is_empty : goal.returns-then-is_empty
returns-then-is_empty c = let e = c.says.ensures ∙ ap (λ o. says Plain o) c.word_op.ensures in
    (e ∙ sym (said-empty _ (eqb-true _ 0 (sym c.is_empty.ensures ∙ c.if-is_empty.true))), rw e (omega arith))

pub returns-in-Some : goal.returns-in-Some
unfolding op_in
returns-in-Some c = let q : op_in c.args.t.now ≡ c.in-Some.op = given_op _ _ _ c.op_of.ensures.0 c.in-Some.is in
    let h = given-some _ _ _ c.op_of.ensures.0 c.op_of.ensures.1 c.in-Some.is in
    (c.says-in-Some.ensures ∙ ap (λ o. says Plain o) (sym q) ∙ sym (said_plain _ (eqb-false _ 0 (sym c.is_empty.ensures ∙ c.if-is_empty.false)) (omega (arith, ap (λ (o : Op). o.count) q, h.0))), rw c.says-in-Some.ensures h.1)

pub returns-then-is_directive : goal.returns-then-is_directive
unfolding op_in
returns-then-is_directive c =
    let e = c.says-then-is_directive.ensures ∙ ap (λ o. says Origin o) (c.word_op-then-is_directive.ensures ∙ ap (λ (n : ℕ). op 0 n) (c.un_hex4.ensures ∙ ap un_hex4 c.after.ensures)) in
    (e ∙ sym (said-org _ (eqb-false _ 0 (sym c.is_empty.ensures ∙ c.if-is_empty.false)) (given-none _ _ c.op_of.ensures.0 c.in_default.is) (sym c.is_directive.ensures ∙ c.if-is_directive.true)), rw e (omega arith))

pub returns-then-is_directive-2 : goal.returns-then-is_directive-2
unfolding op_in
returns-then-is_directive-2 c =
    let e = c.says-then-is_directive-2.ensures ∙ ap (λ o. says Plain o) (c.word_op-then-is_directive-2.ensures ∙ ap (λ (n : ℕ). op 1 n) (c.un_hex4-then-is_directive-2.ensures ∙ ap un_hex4 c.after-then-is_directive-2.ensures)) in
    (e ∙ sym (said-word _ (eqb-false _ 0 (sym c.is_empty.ensures ∙ c.if-is_empty.false)) (given-none _ _ c.op_of.ensures.0 c.in_default.is) (sym c.is_directive.ensures ∙ c.if-is_directive.false) (sym c.is_directive-2.ensures ∙ c.if-is_directive-2.true)), rw e (omega arith))

pub said_with-requires : goal.said_with-requires
said_with-requires c = some-first _ c.filled_op-offset.ensures.1

pub returns : goal.returns
unfolding op_in
returns c = (c.said_with.ensures ∙ rw (c.filled_op-field.ensures.0, c.filled_op-offset.ensures.0) refl ∙ sym (said-labels _ (eqb-false _ 0 (sym c.is_empty.ensures ∙ c.if-is_empty.false)) (given-none _ _ c.op_of.ensures.0 c.in_default.is) (sym c.is_directive.ensures ∙ c.if-is_directive.false) (sym c.is_directive-2.ensures ∙ c.if-is_directive-2.false)), rw c.said_with.ensures (said-with-le _ _ (op_or-le _ c.filled_op-field.ensures.1) (op_or-le _ c.filled_op-offset.ensures.1)))
