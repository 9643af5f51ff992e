use Rattle.board.proofs.Laws.{saw-then, saw-fail, saw-give}
use Rattle.format9.specs.Format9.{mul}
use Rattle.format9.proofs.mul.Goals as goal

pub returns-in_err-t : goal.returns-in_err-t
unfolding mul
returns-in_err-t c = rw (← c.register-k.ensures) (saw-fail _ c.destination.ensures c.in_err-t.was c.from_residual.ensures.1)

pub returns : goal.returns
unfolding mul
returns c = rw (← c.register-k.ensures)
    (saw-then _ c.destination.ensures c.in_ok-t.was (rw (c.with_pair.ensures, c.mul-pair.ensures, c.reg.ensures) saw-give))
