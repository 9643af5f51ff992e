use Rattle.board.proofs.Laws.{did-then, did-fail, did-give}
use Rattle.state.specs.Stack.{push_reg}
use Rattle.state.proofs.State.push_reg.Goals as goal

pub returns-in_err-store : goal.returns-in_err-store
unfolding push_reg
returns-in_err-store c = rw (← c.minus-sp.ensures, ← c.with_sp-s.ensures, ← c.reg.ensures) (did-fail _ c.store.ensures c.in_err-store.was c.from_residual.ensures.1)

pub returns : goal.returns
unfolding push_reg
returns c = rw (← c.minus-sp.ensures, ← c.with_sp-s.ensures, ← c.reg.ensures) (did-then _ c.store.ensures c.in_ok-store.was (did-give c.store.ensures.board))
