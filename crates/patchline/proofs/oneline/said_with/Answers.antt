use Rattle.std.proofs.Common.{◌≡◌, ◌<◌, false, refl, ap, sym, ◌∙◌, subst}
use Rattle.std.specs.Prelude.{IfSome}
use Rattle.optext.specs.declared.Op.{Op}
use Rattle.patchline.specs.declared.oneline.How.TheVariants.{Unknown}
use Rattle.patchline.specs.Line.{said_with, op_or, says, is_branch, is_sob}
use Rattle.patchline.proofs.Laws.{other-none, with-relative, with-unknown}
use Rattle.patchline.proofs.oneline.said_with.Goals as goal
use Rattle.patchline.proofs.oneline.said_with.Goals.{in-Some+else-is_branch+else-is_sob, in_default}

pub returns-then-is_branch : goal.returns-then-is_branch
unfolding said_with
returns-then-is_branch c = c.says.ensures ∙ rw (c.in-Some.is, sym c.is_branch.ensures ∙ c.if-is_branch.true) refl

pub returns-then-is_sob : goal.returns-then-is_sob
unfolding said_with
returns-then-is_sob c = c.says-then-is_sob.ensures ∙ rw (c.in-Some.is, sym c.is_branch.ensures ∙ c.if-is_branch.false, sym c.is_sob.ensures ∙ c.if-is_sob.true) refl

pub returns-in-Some-offset : goal.returns-in-Some-offset
returns-in-Some-offset c =
    let h : 0 < c.in-Some-offset.op.count = subst (λ z. IfSome z (λ (o : Op). 0 < o.count)) c.in-Some-offset.is c.requires in
    let r = c.says-in-Some-offset.ensures in
    let k = ap (λ z. said_with (op_or c.args.field) (op_or z)) (sym c.in-Some-offset.is) in
    elim c.match-field.branch [
      | in-Some+else-is_branch+else-is_sob w ↦ let e = sym w.in-Some.is in
          r ∙ with-relative c.args.field (subst (λ z. is_branch (op_or z).a ≡ false) e (sym w.is_branch.ensures ∙ w.if-is_branch.false)) (subst (λ z. is_sob (op_or z).a ≡ false) e (sym w.is_sob.ensures ∙ w.if-is_sob.false)) c.in-Some-offset.op h ∙ k
      | in_default w ↦ let e = sym w.in_default.is in
          r ∙ with-relative c.args.field (subst (λ z. is_branch (op_or z).a ≡ false) e other-none.0) (subst (λ z. is_sob (op_or z).a ≡ false) e other-none.1) c.in-Some-offset.op h ∙ k
    ]

pub returns-in-None : goal.returns-in-None
returns-in-None c =
    let r = c.says-in-None.ensures ∙ ap (λ z. says Unknown z) c.word_op.ensures in
    let k = ap (λ z. said_with (op_or c.args.field) (op_or z)) (sym c.in-None.is) in
    elim c.match-field.branch [
      | in-Some+else-is_branch+else-is_sob w ↦ let e = sym w.in-Some.is in
          r ∙ with-unknown c.args.field (subst (λ z. is_branch (op_or z).a ≡ false) e (sym w.is_branch.ensures ∙ w.if-is_branch.false)) (subst (λ z. is_sob (op_or z).a ≡ false) e (sym w.is_sob.ensures ∙ w.if-is_sob.false)) ∙ k
      | in_default w ↦ let e = sym w.in_default.is in
          r ∙ with-unknown c.args.field (subst (λ z. is_branch (op_or z).a ≡ false) e other-none.0) (subst (λ z. is_sob (op_or z).a ≡ false) e other-none.1) ∙ k
    ]
