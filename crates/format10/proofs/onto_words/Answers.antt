use mathlib.Core.Path.{refl, sym, ◌∙◌}
use Rattle.board.specs.Work.{word}
use Rattle.board.proofs.Laws.{did-then, did-fail, did-saw}
use Rattle.operand.proofs.Laws.Operand.{decoded}
use Rattle.operand.proofs.Laws.Destination.{never-found, never-read, held}
use Rattle.opcodes.specs.declared.Binary.TheVariants.{Mov}
use Rattle.format10.specs.Inner.{onto}
use Rattle.format10.proofs.Laws.Format10.{settle-yes}
use Rattle.format10.proofs.Laws.Direct.{placed, mov-code, word-there}
use Rattle.format10.proofs.onto_words.Goals as goal

pub returns-in_err-place : goal.returns-in_err-place
unfolding onto
returns-in_err-place c = rw (← c.destination_register-to.ensures, ← c.destination_mode-mode.ensures)
    (did-fail _ (did-saw c.requires (never-found word _ _ _ refl c.reg.ensures c.locate.ensures c.in_err-place.was)) refl c.from_residual.ensures.1)

pub returns-then-opc-eq11 : goal.returns-then-opc-eq11
unfolding onto
returns-then-opc-eq11 c = rw (← c.destination_register-to.ensures, ← c.destination_mode-mode.ensures)
    (rw (mov-code _ (sym c.high_digit-opc.ensures ∙ c.if-opc-eq11.true))
    (record {
      got = placed word _ _ _ _ _ _ _ _ (decoded word _ _ _ refl c.reg.ensures c.locate.ensures c.in_ok-place.was c.moved-u.ensures).got (λ y. settle-yes Mov _ _ _ _ refl) (λ a which w e. word-there _ _ _ a which w _ e) (rw (c.with_flags-w.ensures, c.mov-done.ensures) at c.write.ensures).got;
      board = c.write.ensures.board;
    }))

pub returns-in_err-y : goal.returns-in_err-y
unfolding onto
returns-in_err-y c = rw (← c.destination_register-to.ensures, ← c.destination_mode-mode.ensures)
    (did-fail _ (did-saw c.requires (never-read word _ _ _ refl c.reg.ensures c.locate.ensures c.in_ok-place.was c.moved-u.ensures c.reg-2.ensures c.read_word.ensures c.in_err-y.was).0) refl c.from_residual-in_err-y.ensures.1)

pub returns : goal.returns
unfolding onto
returns c = rw (← c.destination_register-to.ensures, ← c.destination_mode-mode.ensures)
    (did-then _ (did-saw c.requires (held word _ _ _ refl c.reg.ensures c.locate.ensures c.in_ok-place.was c.moved-u.ensures c.reg-2.ensures c.read_word.ensures c.in_ok-y.was)) refl
    (rw (c.with_flags.ensures, c.binary-done.ensures, c.binary_at-b.ensures, c.binary_number.ensures) at c.settle.ensures))
