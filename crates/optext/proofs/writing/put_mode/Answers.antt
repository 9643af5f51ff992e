use Rattle.std.proofs.Common.{ℕ, ◌+◌, ◌/◌, ◌%◌, [], ◌∷◌, refl, ap, ◌∙◌, add-one, arith, length-drop, length-set, length-take, rules}
use Rattle.hexdigits.proofs.Laws.Laid.{over-sets, part-back}
use Rattle.optext.specs.Line.{plain_text}
use Rattle.optext.proofs.Laws.Forms.{mode-plain, mode-at, plain-le}
use Rattle.optext.proofs.writing.put_mode.Goals as goal

pub returns : goal.returns
returns c = let a = c.args in
    let w = c.put_plain-n.ensures in
    rw (mode-at _ _ c.if-f-eq0.false)
    (record {
      bytes = part-back (64 ∷ []) (plain_text (a.f / 16) (a.f % 8) a.x) a.out.now _ _ 1 _ (over-sets (64 ∷ []) a.out.now (omega arith)) refl (omega arith) w;
      count = ap (λ (n : ℕ). n + 1) w.count ∙ add-one _;
    })

pub returns-then-f-eq0 : goal.returns-then-f-eq0
returns-then-f-eq0 c = rw (mode-plain _ _ c.if-f-eq0.true) c.put_plain.ensures

pub put_plain-n-requires : goal.put_plain-n-requires
put_plain-n-requires c = (simp (length-take, length-drop, length-set) (omega arith), search rules)

pub overflow_add-result : goal.overflow_add-result
overflow_add-result c = omega (arith, plain-le (c.args.f / 16) (c.args.f % 8) c.args.x)
