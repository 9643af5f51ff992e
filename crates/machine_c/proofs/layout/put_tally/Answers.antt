use Rattle.machine_c.proofs.Laws.{laid-copy, laid_none}
use Rattle.machine_c.specs.Layout.{tally_bytes}
use Rattle.machine_c.proofs.layout.put_tally.Goals as goal

pub returns-then-b-ne6 : goal.returns-then-b-ne6
unfolding tally_bytes
returns-then-b-ne6 c = laid_none _ _ c.if-b-ne6.true

pub returns : goal.returns
unfolding tally_bytes
returns c = laid-copy _ _ _ _ c.tally_bytes-from.ensures c.if-b-ne6.false c.copy_from_slice.ensures.after
