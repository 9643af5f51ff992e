use Rattle.std.proofs.Common.{◌≡◌, length, sym, ap, ◌∙◌, arith, length-take-le}
use Rattle.hexdigits.proofs.Laws.Laid.{wrote-take}
use Rattle.optext.specs.First.{agree}
use Rattle.optext.proofs.Laws.Longest.{line-le}
use Rattle.optext.proofs.Laws.Meets.{own_row}
use Rattle.optext.proofs.FirstWord.compare.Goals as goal

pub slice_bounds-line-end : goal.slice_bounds-line-end
slice_bounds-line-end c = let a = c.args in
    let p = own_row _ _ _ _ _ _ _ c.args.self.its_row c.put_line-len.ensures in
    let e : length c.put_line-len.new.out ≡ 32 = c.put_line-len.auto.out in
    omega (arith, e, p.count, line-le a.self.word a.x a.y)

pub slice_bounds-agreed-end : goal.slice_bounds-agreed-end
slice_bounds-agreed-end c = let a = c.args in
    let p = own_row _ _ _ _ _ _ _ c.args.self.its_row c.put_line-len.ensures in
    let e : length c.put_line-len.new.out ≡ 32 = c.put_line-len.auto.out in
    sym (length-take-le c.put_line-len.result c.put_line-len.new.out (omega (arith, e, p.count, line-le a.self.word a.x a.y)))

pub returns : goal.returns
returns c = let p = own_row _ _ _ _ _ _ _ c.args.self.its_row c.put_line-len.ensures in
    let s = wrote-take _ _ _ _ p in
    (c.agreed-at.ensures ∙ ap (λ l. agree c.args.t.now l) s, p.count)
