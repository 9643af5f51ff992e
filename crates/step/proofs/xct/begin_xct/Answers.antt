use Rattle.board.proofs.Laws.{saw-then, saw-fail, saw-give}
use Rattle.step.specs.Xct.{begin_xct}
use Rattle.step.proofs.xct.begin_xct.Goals as goal

pub returns-in_err-t : goal.returns-in_err-t
unfolding begin_xct
returns-in_err-t c = saw-fail _ c.pop_reg.ensures c.in_err-t.was c.from_residual.ensures.1

pub returns-in_err-u : goal.returns-in_err-u
unfolding begin_xct
returns-in_err-u c = saw-then _ c.pop_reg.ensures c.in_ok-t.was
    (saw-fail _ c.pop.ensures c.in_err-u.was c.from_residual-in_err-u.ensures.1)

pub returns-in_err-v : goal.returns-in_err-v
unfolding begin_xct
returns-in_err-v c = saw-then _ c.pop_reg.ensures c.in_ok-t.was
    (saw-then _ c.pop.ensures c.in_ok-u.was
    (saw-fail _ (rw (c.with_flags.ensures, c.flags_of.ensures) at c.fetch.ensures) c.in_err-v.was c.from_residual-in_err-v.ensures.1))

pub returns : goal.returns
unfolding begin_xct
returns c = saw-then _ c.pop_reg.ensures c.in_ok-t.was
    (saw-then _ c.pop.ensures c.in_ok-u.was
    (saw-then _ (rw (c.with_flags.ensures, c.flags_of.ensures) at c.fetch.ensures) c.in_ok-v.was
    (rw c.chosen.ensures saw-give)))
