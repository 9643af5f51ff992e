use Rattle.board.proofs.Laws.{did-then, did-fail, did-give}
use Rattle.step.specs.Places.{save_places}
use Rattle.step.proofs.places.save_places.Goals as goal

pub returns-in_err-keep_registers : goal.returns-in_err-keep_registers
unfolding save_places
returns-in_err-keep_registers c = did-fail _ c.keep_registers.ensures c.in_err-keep_registers.was c.from_residual.ensures.1

pub returns-in_err-store : goal.returns-in_err-store
unfolding save_places
returns-in_err-store c = did-then _ c.keep_registers.ensures c.in_ok-keep_registers.was
    (did-fail _ (rw c.ps.ensures at c.store.ensures) c.in_err-store.was c.from_residual-in_err-store.ensures.1)

pub returns : goal.returns
unfolding save_places
returns c = did-then _ c.keep_registers.ensures c.in_ok-keep_registers.was
    (did-then _ (rw c.ps.ensures at c.store.ensures) c.in_ok-store.was (rw c.with_mode.ensures (did-give c.store.ensures.board)))
