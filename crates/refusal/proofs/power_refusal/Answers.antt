use Rattle.std.proofs.Common.{refl}
use Rattle.std.proofs.lemmas.Result.{err_from_is_err_and}
use Rattle.refusal.specs.Refusal.{power_refusal}
use Rattle.refusal.proofs.Laws.Answer.{refused-first}
use Rattle.refusal.proofs.power_refusal.Goals as goal

pub returns-in_err-board_refusal : goal.returns-in_err-board_refusal
unfolding power_refusal
returns-in_err-board_refusal c =
    let p = err_from_is_err_and c.from_residual.result c.from_residual.ensures.1 in
    rw (p.1, p.2) (refused-first c.in_err-board_refusal.field-0.0 _ _ c.in_err-board_refusal.ensures)

pub returns-then-jumpers_fit : goal.returns-then-jumpers_fit
unfolding power_refusal
returns-then-jumpers_fit c = rw (← c.in_ok-board_refusal.ensures, ← c.jumpers_fit.ensures, c.if-jumpers_fit.true) refl

pub returns-else-jumpers_fit : goal.returns-else-jumpers_fit
unfolding power_refusal
returns-else-jumpers_fit c = rw (← c.in_ok-board_refusal.ensures, ← c.jumpers_fit.ensures, c.if-jumpers_fit.false) refl
