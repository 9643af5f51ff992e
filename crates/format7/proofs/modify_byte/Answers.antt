use mathlib.Core.Path.{refl}
use Rattle.board.specs.Work.{byte}
use Rattle.board.proofs.Laws.{did-then, did-fail, did-saw}
use Rattle.operand.proofs.Laws.Destination.{never-found, never-read, held}
use Rattle.format7.specs.Rows.{modify_at}
use Rattle.format7.proofs.modify_byte.Goals as goal

pub returns-in_err-place : goal.returns-in_err-place
unfolding modify_at
returns-in_err-place c = rw (← c.destination_register-k.ensures, ← c.destination_mode-mode.ensures)
    (did-fail _ (did-saw c.requires (never-found byte _ _ _ c.byte_step.ensures c.reg.ensures c.locate.ensures c.in_err-place.was)) refl c.from_residual.ensures.1)

pub returns-in_err-d : goal.returns-in_err-d
unfolding modify_at
returns-in_err-d c = rw (← c.destination_register-k.ensures, ← c.destination_mode-mode.ensures)
    (did-fail _ (did-saw c.requires (never-read byte _ _ _ c.byte_step.ensures c.reg.ensures c.locate.ensures c.in_ok-place.was c.moved-t.ensures c.reg-2.ensures c.read_byte.ensures c.in_err-d.was).0) refl c.from_residual-in_err-d.ensures.1)

pub returns : goal.returns
unfolding modify_at
returns c = rw (← c.destination_register-k.ensures, ← c.destination_mode-mode.ensures)
    (did-then _ (did-saw c.requires (held byte _ _ _ c.byte_step.ensures c.reg.ensures c.locate.ensures c.in_ok-place.was c.moved-t.ensures c.reg-2.ensures c.read_byte.ensures c.in_ok-d.was)) refl
    (rw (c.with_flags.ensures, c.byte_result-done.ensures) at c.stored.ensures))
