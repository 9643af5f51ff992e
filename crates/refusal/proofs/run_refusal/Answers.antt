use Rattle.std.proofs.lemmas.Result.{err_from_is_err_and}
use Rattle.refusal.specs.Refusal.{run_refusal}
use Rattle.refusal.proofs.Laws.Answer.{refused-first}
use Rattle.refusal.proofs.run_refusal.Goals as goal

pub returns-in_err-power_refusal : goal.returns-in_err-power_refusal
unfolding run_refusal
returns-in_err-power_refusal c =
    let p = err_from_is_err_and c.from_residual.result c.from_residual.ensures.1 in
    rw (p.1, p.2) (refused-first c.in_err-power_refusal.field-0.0 _ _ c.in_err-power_refusal.ensures)

pub returns : goal.returns
unfolding run_refusal
returns c = rw (← c.in_ok-power_refusal.ensures) c.lines_refusal.ensures
