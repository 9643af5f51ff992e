use Rattle.board.proofs.Laws.{did-then, did-fail, did-saw}
use Rattle.format9.specs.Format9.{xch}
use Rattle.format9.proofs.xch.Goals as goal

pub returns-in_err-t : goal.returns-in_err-t
unfolding xch
returns-in_err-t c = rw (← c.register-k.ensures) (did-fail _ (did-saw c.requires c.destination.ensures) c.in_err-t.was c.from_residual.ensures.1)

pub returns : goal.returns
unfolding xch
returns c = rw (← c.register-k.ensures)
    (did-then _ (did-saw c.requires c.destination.ensures) c.in_ok-t.was
    (rw (c.with_reg.ensures, c.reg-r.ensures, c.destination_register-to.ensures) at c.write.ensures))
