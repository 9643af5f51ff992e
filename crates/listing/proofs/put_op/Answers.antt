use Rattle.listing.proofs.Laws.{op-wrote, op-never}
use Rattle.listing.proofs.put_op.Goals as goal

pub returns : goal.returns
returns c = op-wrote c.args.words.now c.args.out.now _ _ c.requires.0 c.requires.1 c.write.ensures _ _ c.in-Ok.is

pub unreachable-requires : goal.unreachable-requires
unreachable-requires c = op-never c.args.words.now c.args.out.now _ _ c.requires.0 c.requires.1 c.write.ensures _ c.in-Err.is
