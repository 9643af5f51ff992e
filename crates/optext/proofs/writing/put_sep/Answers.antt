use Rattle.std.proofs.Common.{ℕ, ◌+◌, [], ◌∷◌, sym, refl, ap, ◌∙◌, add-one, arith}
use Rattle.hexdigits.proofs.Laws.Laid.{over-sets, wrote-sets, part-back}
use Rattle.optext.specs.Line.{operand_text}
use Rattle.optext.proofs.Laws.Forms.{sep-none, sep-some, operand-le}
use Rattle.optext.proofs.writing.put_sep.Goals as goal

pub overflow_add-result : goal.overflow_add-result
overflow_add-result c = let a = c.args in
    omega (arith, operand-le a.k a.w a.x)

pub returns-then-is_shown : goal.returns-then-is_shown
returns-then-is_shown c = let a = c.args in
    let w = c.put_operand-n.ensures in
    rw (sep-some _ _ _ _ (sym c.is_shown.ensures ∙ c.if-is_shown.true))
    (record {
      bytes = part-back (a.sep ∷ []) (operand_text a.k a.w a.x) a.out.now _ _ 1 _ (over-sets (a.sep ∷ []) a.out.now (omega arith)) refl (omega arith) w;
      count = ap (λ (n : ℕ). n + 1) w.count ∙ add-one _;
    })

pub returns : goal.returns
returns c = rw (sep-none _ _ _ _ (sym c.is_shown.ensures ∙ c.if-is_shown.false)) (wrote-sets [] c.args.out.now (omega arith))
