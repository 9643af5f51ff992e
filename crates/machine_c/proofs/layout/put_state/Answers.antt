use Rattle.machine_c.proofs.Laws.{laid-copy, laid_none}
use Rattle.machine.specs.Numbers.{state_page}
use Rattle.machine_c.specs.Layout.{state_bytes}
use Rattle.machine_c.proofs.layout.put_state.Goals as goal

pub returns-then-b-ne24 : goal.returns-then-b-ne24
unfolding state_bytes state_page
returns-then-b-ne24 c = laid_none _ _ c.if-b-ne24.true

pub returns : goal.returns
unfolding state_bytes state_page
returns c = laid-copy _ _ _ _ c.state_bytes-from.ensures c.if-b-ne24.false c.copy_from_slice.ensures.after
