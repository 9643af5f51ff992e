use Rattle.board.proofs.Laws.{did-then, did-fail, did-give}
use Rattle.formats2to4.specs.Format2.{msko}
use Rattle.formats2to4.proofs.format2.msko.Goals as goal

pub returns-in_err-store : goal.returns-in_err-store
unfolding msko
returns-in_err-store c = did-fail _ (rw c.reg.ensures at c.store.ensures) c.in_err-store.was c.from_residual.ensures.1

pub returns : goal.returns
unfolding msko
returns c = did-then _ (rw c.reg.ensures at c.store.ensures) c.in_ok-store.was (did-give c.store.ensures.board)
