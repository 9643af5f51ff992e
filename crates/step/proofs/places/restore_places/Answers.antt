use Rattle.board.proofs.Laws.{saw-then, saw-fail, saw-give}
use Rattle.step.specs.Places.{restore_places}
use Rattle.step.proofs.places.restore_places.Goals as goal

pub returns-in_err-t : goal.returns-in_err-t
unfolding restore_places
returns-in_err-t c = saw-fail _ c.pick_up_registers.ensures c.in_err-t.was c.from_residual.ensures.1

pub returns-in_err-ps : goal.returns-in_err-ps
unfolding restore_places
returns-in_err-ps c = saw-then _ c.pick_up_registers.ensures c.in_ok-t.was
    (saw-fail _ c.load.ensures c.in_err-ps.was c.from_residual-in_err-ps.ensures.1)

pub returns : goal.returns
unfolding restore_places
returns c = saw-then _ c.pick_up_registers.ensures c.in_ok-t.was
    (saw-then _ c.load.ensures c.in_ok-ps.was (rw (c.with_mode.ensures, c.with_status.ensures) saw-give))
