use mathlib.Core.Path.{refl, sym, ◌∙◌}
use Rattle.board.specs.Work.{byte}
use Rattle.board.proofs.Laws.{did-then, did-fail, did-saw}
use Rattle.operand.proofs.Laws.Operand.{decoded}
use Rattle.operand.proofs.Laws.Destination.{never-found, never-read, held}
use Rattle.format10.specs.Format10.{settle_byte}
use Rattle.format10.specs.Inner.{onto}
use Rattle.format10.proofs.Laws.Direct.{placed, movb-code, byte-there}
use Rattle.format10.proofs.onto_bytes.Goals as goal

pub returns-in_err-place : goal.returns-in_err-place
unfolding onto
returns-in_err-place c = rw (← c.destination_register-to.ensures, ← c.destination_mode-mode.ensures)
    (did-fail _ (did-saw c.requires (never-found byte _ _ _ c.byte_step-step.ensures c.reg.ensures c.locate.ensures c.in_err-place.was)) refl c.from_residual.ensures.1)

pub returns-then-opc-eq13 : goal.returns-then-opc-eq13
unfolding onto settle_byte
returns-then-opc-eq13 c = rw (← c.destination_register-to.ensures, ← c.destination_mode-mode.ensures)
    (rw (movb-code _ (sym c.high_digit-opc.ensures ∙ c.if-opc-eq13.true))
    (record {
      got = placed byte _ _ _ _ _ _ _ _ (decoded byte _ _ _ c.byte_step-step.ensures c.reg.ensures c.locate.ensures c.in_ok-place.was c.moved-u.ensures).got (λ y. refl) (λ a which w e. byte-there _ _ _ a which w _ e) (rw (c.with_flags.ensures, c.mov-done.ensures) at c.move_byte.ensures).got;
      board = c.move_byte.ensures.board;
    }))

pub returns-in_err-y : goal.returns-in_err-y
unfolding onto
returns-in_err-y c = rw (← c.destination_register-to.ensures, ← c.destination_mode-mode.ensures)
    (did-fail _ (did-saw c.requires (never-read byte _ _ _ c.byte_step-step.ensures c.reg.ensures c.locate.ensures c.in_ok-place.was c.moved-u.ensures c.reg-2.ensures c.read_byte.ensures c.in_err-y.was).0) refl c.from_residual-in_err-y.ensures.1)

pub returns : goal.returns
unfolding onto
returns c = rw (← c.destination_register-to.ensures, ← c.destination_mode-mode.ensures)
    (did-then _ (did-saw c.requires (held byte _ _ _ c.byte_step-step.ensures c.reg.ensures c.locate.ensures c.in_ok-place.was c.moved-u.ensures c.reg-2.ensures c.read_byte.ensures c.in_ok-y.was)) refl
    (rw (c.with_flags-w.ensures, c.byte_binary-done.ensures, c.byte_binary_at-b.ensures, c.minus.ensures, c.high_digit-opc.ensures) at c.settle_byte.ensures))
