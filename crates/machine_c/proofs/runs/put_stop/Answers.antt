use Rattle.machine_c.proofs.Laws.{laid-copy, laid_none}
use Rattle.machine_c.specs.Runs.{stop_bytes}
use Rattle.machine_c.proofs.runs.put_stop.Goals as goal

pub returns-then-b-ne8 : goal.returns-then-b-ne8
unfolding stop_bytes
returns-then-b-ne8 c = laid_none _ _ c.if-b-ne8.true

pub returns : goal.returns
unfolding stop_bytes
returns c = laid-copy _ _ _ _ c.stop_bytes-from.ensures c.if-b-ne8.false c.copy_from_slice.ensures.after
