use Rattle.board.proofs.Laws.{saw-then, saw-fail}
use Rattle.step.specs.Places.{pick_up_registers}
use Rattle.step.proofs.places.pick_up_registers.Goals as goal

pub returns-in_err-t : goal.returns-in_err-t
unfolding pick_up_registers
returns-in_err-t c = saw-fail _ c.pick_up_four.ensures c.in_err-t.was c.from_residual.ensures.1

pub returns : goal.returns
unfolding pick_up_registers
returns c = saw-then _ c.pick_up_four.ensures c.in_ok-t.was c.pick_up_four-2.ensures
