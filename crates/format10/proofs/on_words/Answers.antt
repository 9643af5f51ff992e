use mathlib.Core.Path.{refl}
use Rattle.board.specs.Work.{word}
use Rattle.board.proofs.Laws.{did-then, did-fail, did-saw}
use Rattle.operand.proofs.Laws.Destination.{never-found, never-read, held}
use Rattle.format10.specs.Format10.{on_operands}
use Rattle.format10.specs.Inner.{onto}
use Rattle.format10.proofs.on_words.Goals as goal

pub returns-in_err-source : goal.returns-in_err-source
unfolding on_operands
returns-in_err-source c = rw (← c.source_register-from.ensures, ← c.source_mode-mode.ensures)
    (did-fail _ (did-saw c.requires (never-found word _ _ _ refl c.reg.ensures c.locate.ensures c.in_err-source.was)) refl c.from_residual.ensures.1)

pub returns-in_err-x : goal.returns-in_err-x
unfolding on_operands
returns-in_err-x c = rw (← c.source_register-from.ensures, ← c.source_mode-mode.ensures)
    (did-fail _ (did-saw c.requires (never-read word _ _ _ refl c.reg.ensures c.locate.ensures c.in_ok-source.was c.moved-t.ensures c.reg-2.ensures c.read_word.ensures c.in_err-x.was).0) refl c.from_residual-in_err-x.ensures.1)

pub returns : goal.returns
unfolding on_operands onto
returns c = rw (← c.source_register-from.ensures, ← c.source_mode-mode.ensures)
    (did-then _ (did-saw c.requires (held word _ _ _ refl c.reg.ensures c.locate.ensures c.in_ok-source.was c.moved-t.ensures c.reg-2.ensures c.read_word.ensures c.in_ok-x.was)) refl c.onto_words.ensures)
