use Rattle.endline.proofs.Laws.{bench-is}
use Rattle.endline.proofs.write_end.Goals as goal

pub returns : goal.returns
returns c = bench-is _ _ _ _ c.write_end_on.ensures c.bench_board.ensures
