use Rattle.board.proofs.Laws.{saw-then, saw-fail, saw-give}
use Rattle.format9.specs.Format9.{ash}
use Rattle.format9.proofs.ash.Goals as goal

pub returns-in_err-t : goal.returns-in_err-t
unfolding ash
returns-in_err-t c = rw (← c.register-k.ensures) (saw-fail _ c.destination.ensures c.in_err-t.was c.from_residual.ensures.1)

pub returns : goal.returns
unfolding ash
returns c = rw (← c.register-k.ensures)
    (saw-then _ c.destination.ensures c.in_ok-t.was (rw (c.with_done.ensures, c.ash-done.ensures, c.reg.ensures) saw-give))
