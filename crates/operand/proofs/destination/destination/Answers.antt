use Rattle.board.proofs.Laws.{passed}
use Rattle.operand.proofs.Laws.Destination.{never-found, never-read, held}
use Rattle.operand.proofs.destination.destination.Goals as goal

pub returns-in_err-to : goal.returns-in_err-to
returns-in_err-to c = rw (passed c.from_residual.ensures.1, ← c.destination_register-k.ensures, ← c.destination_mode-mode.ensures)
    (never-found _ _ _ _ c.step_of.ensures c.reg.ensures c.locate.ensures c.in_err-to.was)

pub returns-in_err-v : goal.returns-in_err-v
returns-in_err-v c = rw (passed c.from_residual-in_err-v.ensures.1, ← c.destination_register-k.ensures, ← c.destination_mode-mode.ensures)
    (never-read _ _ _ _ c.step_of.ensures c.reg.ensures c.locate.ensures c.in_ok-to.was c.moved-t.ensures c.reg-2.ensures c.read.ensures c.in_err-v.was).0

pub returns : goal.returns
returns c = rw (← c.destination_register-k.ensures, ← c.destination_mode-mode.ensures)
    (held _ _ _ _ c.step_of.ensures c.reg.ensures c.locate.ensures c.in_ok-to.was c.moved-t.ensures c.reg-2.ensures c.read.ensures c.in_ok-v.was)
