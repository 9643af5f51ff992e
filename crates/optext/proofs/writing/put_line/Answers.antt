use Rattle.std.proofs.Common.{◌≡◌, length, arith}
use Rattle.hexdigits.proofs.Laws.Laid.{then}
use Rattle.optext.proofs.Laws.Table.{name-le}
use Rattle.optext.proofs.Laws.Forms.{sep-le, name_wrote}
use Rattle.optext.proofs.writing.put_line.Goals as goal

pub put_at-m-requires : goal.put_at-m-requires
put_at-m-requires c = let e : length c.put_text-n.new.out ≡ length c.args.out.now = c.put_text-n.auto.out in
    let w = name_wrote c.args.row.place _ c.args.out.now _ _ c.args.row.inside c.requires c.name.ensures c.put_text-n.ensures in
    omega (arith, name-le c.args.row.place c.args.row.inside, w.count, e, c.requires)

pub put_at-requires : goal.put_at-requires
put_at-requires c = let a = c.args in
    let w = name_wrote c.args.row.place _ c.args.out.now _ _ c.args.row.inside c.requires c.name.ensures c.put_text-n.ensures in
    let e : length c.put_text-n.new.out ≡ length a.out.now = c.put_text-n.auto.out in
    let f : length c.put_at-m.new.out ≡ length c.put_text-n.new.out = c.put_at-m.auto.out in
    omega (arith, name-le a.row.place a.row.inside, w.count, e, f, c.put_at-m.ensures.count, sep-le 32 c.first.result a.w a.x, c.requires)

pub returns : goal.returns
returns c = let b = c.args.out.now in
    let w = name_wrote c.args.row.place _ c.args.out.now _ _ c.args.row.inside c.requires c.name.ensures c.put_text-n.ensures in
    rw (← c.first.ensures, ← c.second.ensures)
    (then _ _ b _ _ c.put_at-m.result _ (then _ _ b _ _ c.put_text-n.result _ w c.put_at-m.ensures) c.put_at.ensures)
