use Rattle.std.proofs.Common.{refl}
use Rattle.std.proofs.lemmas.Result.{err_from_is_err_and}
use Rattle.refusal.proofs.Laws.Answer.{number-some}
use Rattle.answer.proofs.Laws.{room}
use Rattle.job_c.proofs.Laws.{read-bad, done, stopped}
use Rattle.job_c.proofs.read_into.Goals as goal

pub returns-in_err-refusal : goal.returns-in_err-refusal
returns-in_err-refusal c =
    let p = err_from_is_err_and c.from_residual.result c.from_residual.ensures.1 in
    rw (p.1, p.2) (read-bad _ _ _ _ _ _ c.in_err-refusal.ensures (number-some c.in_err-refusal.field-0.0))

pub returns-in_err-count : goal.returns-in_err-count
returns-in_err-count c =
    let p = err_from_is_err_and c.from_residual-in_err-count.result c.from_residual-in_err-count.ensures.1 in
    rw (p.1, p.2) (stopped _ _ _ _ _ _ c.in_ok-refusal.ensures refl _ _ _ _ c.read_job.ensures _ c.in_err-count.was)

pub put-requires : goal.put-requires
put-requires c = room _ _ c.in_ok-refusal.ensures refl

pub returns : goal.returns
returns c = done _ _ _ _ _ _ c.in_ok-refusal.ensures refl _ _ _ _ c.read_job.ensures _ _ c.in_ok-count.was c.put.ensures
