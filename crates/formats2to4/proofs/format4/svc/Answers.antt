use Rattle.board.proofs.Laws.{did-then, did-fail, did-saw}
use Rattle.formats2to4.specs.Format4.{svc}
use Rattle.formats2to4.proofs.format4.svc.Goals as goal

pub returns-in_err-both : goal.returns-in_err-both
unfolding svc
returns-in_err-both c = did-fail _ (rw c.ps.ensures at c.push_both.ensures) c.in_err-both.was c.from_residual.ensures.1

pub returns-in_err-pushed : goal.returns-in_err-pushed
unfolding svc
returns-in_err-pushed c = did-then _ (rw c.ps.ensures at c.push_both.ensures) c.in_ok-both.was
    (did-fail _ c.push.ensures c.in_err-pushed.was c.from_residual-in_err-pushed.ensures.1)

pub returns-in_err-saved : goal.returns-in_err-saved
unfolding svc
returns-in_err-saved c = did-then _ (rw c.ps.ensures at c.push_both.ensures) c.in_ok-both.was
    (did-then _ c.push.ensures c.in_ok-pushed.was
    (did-fail _ c.save.ensures c.in_err-saved.was c.from_residual-in_err-saved.ensures.1))

pub from_loc-requires : goal.from_loc-requires
from_loc-requires c = c.save.ensures.board.lent

pub returns : goal.returns
unfolding svc
returns c = did-then _ (rw c.ps.ensures at c.push_both.ensures) c.in_ok-both.was
    (did-then _ c.push.ensures c.in_ok-pushed.was
    (did-then _ c.save.ensures c.in_ok-saved.was
    (did-saw c.save.ensures.board (rw (c.with_reg-2.ensures, c.plus.ensures, c.with_reg.ensures) at c.from_loc.ensures))))
