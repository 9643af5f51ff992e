use Rattle.std.proofs.Common.{arith}
use Rattle.listjob.proofs.Laws.{listing-line, listing-never, fits-end, line-ended}
use Rattle.listjob.proofs.put_line.Goals as goal

pub end_at-requires : goal.end_at-requires
end_at-requires c = omega (arith, fits-end c.args.image.now c.args.map.now c.args.a c.args.last c.args.text.now c.requires _ _ _ (listing-line c.args.image.now c.args.map.now c.args.a c.args.last c.args.text.now c.requires _ _ _ c.in-Ok.is c.list_line.ensures), c.list_line.auto)

pub unreachable-requires : goal.unreachable-requires
unreachable-requires c = listing-never c.args.image.now c.args.map.now c.args.a c.args.last c.args.text.now c.requires _ _ _ c.in-Err.is c.list_line.ensures

pub returns : goal.returns
returns c = let g = listing-line c.args.image.now c.args.map.now c.args.a c.args.last c.args.text.now c.requires _ _ _ c.in-Ok.is c.list_line.ensures in
    (line-ended c.args.image.now c.args.map.now c.args.a c.args.last c.args.text.now c.requires _ _ _ _ _ g c.end_at.ensures, g.next)
