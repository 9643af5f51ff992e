use Rattle.board.proofs.Laws.{did-then, did-fail, did-saw}
use Rattle.format7.specs.Format7.{tcall}
use Rattle.format7.proofs.tcall.Goals as goal

pub returns-in_err-t : goal.returns-in_err-t
unfolding tcall
returns-in_err-t c = did-fail _ (did-saw c.requires c.destination.ensures) c.in_err-t.was c.from_residual.ensures.1

pub returns-in_err-u : goal.returns-in_err-u
unfolding tcall
returns-in_err-u c = did-then _ (did-saw c.requires c.destination.ensures) c.in_ok-t.was
    (did-fail _ c.push.ensures c.in_err-u.was c.from_residual-in_err-u.ensures.1)

pub returns : goal.returns
unfolding tcall
returns c = did-then _ (did-saw c.requires c.destination.ensures) c.in_ok-t.was
    (did-then _ c.push.ensures c.in_ok-u.was (did-saw c.push.ensures.board (rw c.plus.ensures at c.tabled.ensures)))
