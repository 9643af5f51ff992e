use Rattle.std.proofs.Common.{sym}
use Rattle.std.proofs.lemmas.Result.{err_from_is_err_and}
use Rattle.refusal.proofs.Laws.Answer.{number-some}
use Rattle.runjob.proofs.Laws.{job-refused, job-done}
use Rattle.runjob.proofs.run.Goals as goal

pub returns-in_err-refusal : goal.returns-in_err-refusal
returns-in_err-refusal c =
    let p = err_from_is_err_and c.from_residual.result c.from_residual.ensures.1 in
    rw (p.1, p.2) (job-refused _ _ _ _ _ c.in_err-refusal.ensures (number-some c.in_err-refusal.field-0.0))

pub begin-begun-requires : goal.begin-begun-requires
begin-begun-requires c = record { none = sym c.in_ok-refusal.ensures }

pub returns : goal.returns
returns c = job-done _ _ _ _ _ _ (sym c.in_ok-refusal.ensures) c.begin-begun.ensures c.run_first.ensures.same
