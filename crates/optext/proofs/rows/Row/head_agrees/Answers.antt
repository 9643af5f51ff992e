use Rattle.std.proofs.Common.{ℕ, ◌+◌, [], ◌∷◌, sym, ap, ◌∙◌, arith}
use Rattle.optext.specs.Rows.{name_of}
use Rattle.optext.specs.Line.{is_shown}
use Rattle.optext.proofs.Laws.Near.{agree-le}
use Rattle.optext.proofs.Laws.Table.{name-le}
use Rattle.optext.proofs.Laws.Heads.{head-none, head-short, head-after}
use Rattle.optext.proofs.rows.Row.head_agrees.Goals as goal

pub overflow_add-result : goal.overflow_add-result
overflow_add-result c = let t = c.args.t.now in
    let k = c.args.self.place in
    let q = rw c.name-name.ensures at c.agreed-i.ensures in
    omega (arith, q, c.agreed.ensures, agree-le t (name_of k), name-le k c.args.self.inside, agree-le c.after.result.now (32 ∷ []))

pub returns-then-is_shown : goal.returns-then-is_shown
returns-then-is_shown c = let t = c.args.t.now in
    let k = c.args.self.place in
    let q = rw c.name-name.ensures at c.agreed-i.ensures in
    let e = sym (c.is_shown.ensures ∙ ap is_shown c.first.ensures) ∙ c.if-is_shown.true in
    ap (λ (n : ℕ). c.agreed-i.result + n) (rw c.after.ensures at c.agreed.ensures) ∙ head-after t k c.agreed-i.result q (rw c.name-name.ensures at c.if-i-name.false) e

pub returns-then-i-name : goal.returns-then-i-name
returns-then-i-name c = head-short c.args.t.now c.args.self.place c.agreed-i.result (rw c.name-name.ensures at c.agreed-i.ensures) (rw c.name-name.ensures at c.if-i-name.true)

pub returns : goal.returns
returns c = rw (c.name-name.ensures, ← head-none c.args.t.now c.args.self.place (sym (c.is_shown.ensures ∙ ap is_shown c.first.ensures) ∙ c.if-is_shown.false)) at c.agreed-i.ensures
