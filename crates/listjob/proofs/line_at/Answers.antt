use Rattle.std.proofs.Common.{arith}
use Rattle.hexdigits.proofs.Laws.Laid.{at_part}
use Rattle.listjob.proofs.Laws.{part-taken, ended-short}
use Rattle.listjob.proofs.line_at.Goals as goal

pub put_line-line-requires : goal.put_line-line-requires
put_line-line-requires c = part-taken c.args.image.now c.args.map.now c.args.a c.args.last c.args.at c.args.text.now c.requires

pub overflow_add-result : goal.overflow_add-result
overflow_add-result c = omega (arith, c.put_line-line.ensures.0.count, ended-short c.args.image.now c.args.map.now c.args.a c.args.last, c.requires.low)

pub returns : goal.returns
returns c = let g = c.put_line-line.ensures in
    (at_part _ _ _ _ _ (omega (arith, c.requires.there)) g.0, g.1)
