use native.Mathlib.Omega.{arith}
use borrow.Author.Tests.{lt-ltb, le-ltb}
use Rattle.board.proofs.Laws.{saw-then, saw-fail, saw-give}
use Rattle.operand.specs.Operand.{locate}
use Rattle.operand.proofs.Laws.Modes.{indexed_by}
use Rattle.operand.proofs.Laws.Modes.{locate-pointed, locate-offset}
use Rattle.operand.proofs.locate.Goals as goal

pub returns-then-mode-eq0 : goal.returns-then-mode-eq0
unfolding locate indexed_by
returns-then-mode-eq0 c = rw c.if-mode-eq0.true saw-give

pub returns-then-mode-lt6 : goal.returns-then-mode-lt6
unfolding locate indexed_by
returns-then-mode-lt6 c = rw (locate-pointed _ _ _ _ c.args.mode (omega (arith, c.if-mode-eq0.false)) c.if-mode-lt6.true) c.pointed.ensures

pub returns-in_err-x : goal.returns-in_err-x
unfolding locate indexed_by
returns-in_err-x c = rw (locate-offset _ _ _ _ c.args.mode c.if-mode-lt6.false) (saw-fail _ c.load.ensures c.in_err-x.was c.from_residual.ensures.1)

pub returns-then-mode-gt6 : goal.returns-then-mode-gt6
unfolding locate indexed_by
returns-then-mode-gt6 c = rw (locate-offset _ _ _ _ c.args.mode c.if-mode-lt6.false, lt-ltb _ _ c.if-mode-gt6.true)
    (saw-then _ c.load.ensures c.in_ok-x.was (rw (c.plus-next.ensures, c.plus-at.ensures, c.base.ensures) at c.deferred.ensures))

pub returns : goal.returns
unfolding locate indexed_by
returns c = rw (locate-offset _ _ _ _ c.args.mode c.if-mode-lt6.false, le-ltb _ _ c.if-mode-gt6.false)
    (saw-then _ c.load.ensures c.in_ok-x.was (rw (c.plus-next.ensures, c.plus-at.ensures, c.base.ensures) saw-give))
