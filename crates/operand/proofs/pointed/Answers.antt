use mathlib.Core.Path.{sym, ◌∙◌}
use Rattle.board.proofs.Laws.{saw-give}
use Rattle.operand.proofs.Laws.Modes.{pointed-is}
use Rattle.operand.proofs.pointed.Goals as goal

pub returns-then-defers : goal.returns-then-defers
returns-then-defers c = rw (pointed-is _ _ _ _ c.stride-by.ensures c.pointer-at.ensures c.beyond-next.ensures (sym c.defers.ensures ∙ c.if-defers.true))
    c.deferred.ensures

pub returns : goal.returns
returns c = rw (pointed-is _ _ _ _ c.stride-by.ensures c.pointer-at.ensures c.beyond-next.ensures (sym c.defers.ensures ∙ c.if-defers.false)) saw-give
