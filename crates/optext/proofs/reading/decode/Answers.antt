use Rattle.std.proofs.Common.{refl}
use Rattle.optext.proofs.Laws.Meets.{decode_is}
use Rattle.optext.proofs.reading.decode.Goals as goal

pub returns : goal.returns
returns c = let e = c.after.ensures in
    let d = c.after-2.ensures in
    decode_is c.args.t.now c.row_at-row.result.place c.name_len-n.result c.base.result _ _
    c.first.result c.second.result c.un_operand-a.result c.un_operand-b.result
    c.row_at-row.ensures c.name_len-n.ensures.0 c.first.ensures c.second.ensures c.base.ensures
    (rw e at c.un_operand-a.ensures.0) (rw d at c.un_operand-b.ensures.0) refl refl
