use Rattle.std.proofs.Common.{ℕ, refl}
use Rattle.std.proofs.lemmas.Result.{err_from_is_err_and}
use lib.ListN.{length-replicate}
use Rattle.refusal.proofs.Laws.Answer.{number-some}
use Rattle.answer.proofs.Laws.{room}
use Rattle.trace_c.proofs.Laws.{call-bad, call-done, call-refused}
use Rattle.trace_c.proofs.check_into.Goals as goal

pub returns-in_err-refusal : goal.returns-in_err-refusal
returns-in_err-refusal c =
    let p = err_from_is_err_and c.from_residual.result c.from_residual.ensures.1 in
    rw (p.1, p.2) (call-bad _ _ _ _ c.in_err-refusal.ensures (number-some c.in_err-refusal.field-0.0))

pub returns-in_err-found : goal.returns-in_err-found
returns-in_err-found c =
    let p = err_from_is_err_and c.from_residual-in_err-found.result c.from_residual-in_err-found.ensures.1 in
    rw (p.1, p.2) (call-refused _ _ _ _ c.in_ok-refusal.ensures _ _ _ (length-replicate {A = ℕ} 65536 0) (length-replicate {A = ℕ} 256 0) (length-replicate {A = ℕ} 4096 0) refl _ _ c.check.ensures _ c.in_err-found.was)

pub put_verdict-requires : goal.put_verdict-requires
put_verdict-requires c = room _ _ c.in_ok-refusal.ensures refl

pub returns : goal.returns
returns c = call-done _ _ _ _ c.in_ok-refusal.ensures _ _ _ (length-replicate {A = ℕ} 65536 0) (length-replicate {A = ℕ} 256 0) (length-replicate {A = ℕ} 4096 0) refl _ _ c.check.ensures _ _ c.in_ok-found.was c.put_verdict.ensures
