use Rattle.board.proofs.Laws.{saw-then, saw-fail, saw-give}
use Rattle.format9.specs.Format9.{ashc}
use Rattle.format9.proofs.ashc.Goals as goal

pub returns-in_err-t : goal.returns-in_err-t
unfolding ashc
returns-in_err-t c = rw (← c.register-k.ensures) (saw-fail _ c.destination.ensures c.in_err-t.was c.from_residual.ensures.1)

pub returns : goal.returns
unfolding ashc
returns c = rw (← c.register-k.ensures)
    (saw-then _ c.destination.ensures c.in_ok-t.was (rw (c.with_pair.ensures, c.ashc-pair.ensures, c.reg-2.ensures, c.next.ensures, c.reg.ensures) saw-give))
