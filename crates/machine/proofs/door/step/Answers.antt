use Rattle.machine.proofs.Laws.Door.{logged-one}
use Rattle.machine.proofs.door.step.Goals as goal

pub returns : goal.returns
returns c = record { same = logged-one _ _ _ _ _ _ _ c.run_from-last.ensures; board = c.run_from-last.ensures.board }
