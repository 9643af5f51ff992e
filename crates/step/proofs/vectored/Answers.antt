use Rattle.board.proofs.Laws.{did-then, did-fail, did-saw}
use Rattle.step.specs.Step.{vectored}
use Rattle.step.proofs.vectored.Goals as goal

pub returns-in_err-t : goal.returns-in_err-t
unfolding vectored
returns-in_err-t c = did-fail _ c.trap_now.ensures c.in_err-t.was c.from_residual.ensures.1

pub returns : goal.returns
unfolding vectored
returns c = did-then _ c.trap_now.ensures c.in_ok-t.was (did-saw c.trap_now.ensures.board (rw (c.plus-2.ensures, c.plus.ensures) at c.tabled.ensures))
