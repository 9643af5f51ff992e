use Rattle.board.proofs.Laws.{did-then, did-fail, did-give}
use Rattle.state.specs.Stack.{push}
use Rattle.state.proofs.State.push.Goals as goal

pub returns-in_err-store : goal.returns-in_err-store
unfolding push
returns-in_err-store c = rw (← c.minus-sp.ensures) (did-fail _ c.store.ensures c.in_err-store.was c.from_residual.ensures.1)

pub returns : goal.returns
unfolding push
returns c = rw (c.with_sp.ensures, ← c.minus-sp.ensures) (did-then _ c.store.ensures c.in_ok-store.was (did-give c.store.ensures.board))
