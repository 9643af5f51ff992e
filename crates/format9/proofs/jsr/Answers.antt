use mathlib.Core.Path.{refl}
use Rattle.board.specs.Work.{word}
use Rattle.board.proofs.Laws.{did-then, did-fail, did-saw}
use Rattle.operand.proofs.Laws.Operand.{decoded, undecoded}
use Rattle.format9.specs.Format9.{jsr}
use Rattle.format9.proofs.jsr.Goals as goal

pub returns-in_err-to : goal.returns-in_err-to
unfolding jsr
returns-in_err-to c = rw (← c.destination_register-k.ensures, ← c.destination_mode-mode.ensures, ← c.register-r.ensures)
    (did-fail _ (did-saw c.requires (undecoded word _ _ _ refl c.reg.ensures c.locate.ensures c.in_err-to.was)) refl c.from_residual.ensures.1)

pub returns : goal.returns
unfolding jsr
returns c = rw (← c.destination_register-k.ensures, ← c.destination_mode-mode.ensures, ← c.register-r.ensures)
    (did-then _ (did-saw c.requires (decoded word _ _ _ refl c.reg.ensures c.locate.ensures c.in_ok-to.was c.moved-t.ensures)) refl c.jsr_to.ensures)
