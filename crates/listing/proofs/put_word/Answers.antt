use Rattle.listing.proofs.Laws.{word-wrote, word-never}
use Rattle.listing.proofs.put_word.Goals as goal

pub returns : goal.returns
returns c = word-wrote c.args.w c.args.out.now _ _ c.requires c.write_word.ensures _ _ c.in-Ok.is

pub unreachable-requires : goal.unreachable-requires
unreachable-requires c = word-never c.args.w c.args.out.now _ _ c.requires c.write_word.ensures _ c.in-Err.is
