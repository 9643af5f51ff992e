use Rattle.std.proofs.Common.{refl}
use Rattle.std.proofs.lemmas.Result.{err_from_is_err_and}
use Rattle.refusal.specs.Refusal.{step_refusal}
use Rattle.refusal.proofs.Laws.Answer.{refused-first}
use Rattle.refusal.proofs.step_refusal.Goals as goal

pub returns-in_err-power_refusal : goal.returns-in_err-power_refusal
unfolding step_refusal
returns-in_err-power_refusal c =
    let p = err_from_is_err_and c.from_residual.result c.from_residual.ensures.1 in
    rw (p.1, p.2) (refused-first c.in_err-power_refusal.field-0.0 _ _ c.in_err-power_refusal.ensures)

pub returns-then-plain : goal.returns-then-plain
unfolding step_refusal
returns-then-plain c = rw (← c.in_ok-power_refusal.ensures, ← c.plain.ensures, c.if-plain.true) refl

pub returns-else-plain : goal.returns-else-plain
unfolding step_refusal
returns-else-plain c = rw (← c.in_ok-power_refusal.ensures, ← c.plain.ensures, c.if-plain.false) refl
