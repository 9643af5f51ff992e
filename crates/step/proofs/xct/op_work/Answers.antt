use mathlib.Core.Path.{ap, ◌∙◌}
use Rattle.std.specs.Prelude.{Ok}
use Rattle.board.proofs.Laws.{did-then, did-fail, did-saw}
use Rattle.step.specs.Xct.{op_work, carry}
use Rattle.step.proofs.xct.op_work.Goals as goal

pub returns-in_err-t : goal.returns-in_err-t
unfolding op_work
returns-in_err-t c = did-fail _ (did-saw c.requires c.fetch.ensures) c.in_err-t.was c.from_residual.ensures.1

pub returns-in_err-u : goal.returns-in_err-u
unfolding op_work
returns-in_err-u c = did-then _ (did-saw c.requires c.fetch.ensures) c.in_ok-t.was
    (did-fail _ (did-saw c.requires c.begun.ensures) c.in_err-u.was c.from_residual-in_err-u.ensures.1)

pub returns-in-Code : goal.returns-in-Code
unfolding op_work
returns-in-Code c = did-then _ (did-saw c.requires c.fetch.ensures) c.in_ok-t.was
    (did-then _ (did-saw c.requires c.begun.ensures) (c.in_ok-u.was ∙ ap Ok c.in-Code.is) c.carry.ensures)

pub returns-in-Abort : goal.returns-in-Abort
unfolding op_work carry
returns-in-Abort c = rw c.apart.ensures
    (did-then _ (did-saw c.requires c.fetch.ensures) c.in_ok-t.was
    (did-then _ (did-saw c.requires c.begun.ensures) (c.in_ok-u.was ∙ ap Ok c.in-Abort.is) c.trap_now.ensures))
