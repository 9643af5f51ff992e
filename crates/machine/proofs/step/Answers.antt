use Rattle.std.proofs.lemmas.Result.{err_from_is_err_and}
use mathlib.Core.Path.{sym}
use native.Mathlib.Omega.{arith}
use lib.ListN.{length}
use Rattle.machine.proofs.Laws.Run.{run-of-one}
use Rattle.refusal.proofs.Laws.Answer.{number-some}
use Rattle.refusal.proofs.Laws.Refusal.{step-sound}
use Rattle.machine.proofs.Laws.Entry.{step-refused, step-answered}
use Rattle.machine.proofs.step.Goals as goal

pub returns-in_err-step_refusal : goal.returns-in_err-step_refusal
returns-in_err-step_refusal c =
    let p = err_from_is_err_and c.from_residual.result c.from_residual.ensures.1 in
    rw (p.1, p.2) (step-refused _ _ _ _ _ _ c.in_err-step_refusal.ensures (number-some c.in_err-step_refusal.field-0.0))

pub run_on-last-requires : goal.run_on-last-requires
run_on-last-requires c = let k = step-sound (length c.args.image.now) c.args.map.now _ _ _ c.args.line (sym c.in_ok-step_refusal.ensures) in
    (record { pages = k.pages; size = k.bytes; bytes = λ i. omega (arith, c.slice_known-1.given i) }, omega arith)

pub returns : goal.returns
returns c = step-answered _ _ _ _ _ _ _ (sym c.in_ok-step_refusal.ensures)
    (run-of-one _ _ _ _ _ c.run_on-last.ensures.same c.run_on-last.ensures.cause)
