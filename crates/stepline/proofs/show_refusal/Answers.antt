use Rattle.std.proofs.lemmas.Result.{err_from_is_err_and}
use mathlib.Core.Path.{refl}
use Rattle.refusal.proofs.Laws.Answer.{number-some}
use Rattle.stepline.proofs.Laws.{why-step, why-short, why-nothing}
use Rattle.stepline.proofs.show_refusal.Goals as goal

pub returns-in_err-step_refusal : goal.returns-in_err-step_refusal
returns-in_err-step_refusal c = let a = c.args in
    let p = err_from_is_err_and c.from_residual.result c.from_residual.ensures.1 in
    rw (p.1, p.2) (why-step a.settings a.size a.map.now a.line a.text _ c.in_err-step_refusal.ensures (number-some c.in_err-step_refusal.field-0.0))

pub returns-then-text-lt278 : goal.returns-then-text-lt278
returns-then-text-lt278 c = let a = c.args in why-short a.settings a.size a.map.now a.line a.text _ c.in_ok-step_refusal.ensures refl c.if-text-lt278.true

pub returns : goal.returns
returns c = let a = c.args in why-nothing a.settings a.size a.map.now a.line a.text _ c.in_ok-step_refusal.ensures refl c.if-text-lt278.false
