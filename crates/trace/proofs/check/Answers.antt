use Rattle.std.proofs.Common.{sym}
use Rattle.std.proofs.lemmas.Result.{err_from_is_err_and}
use Rattle.refusal.proofs.Laws.Answer.{number-some}
use Rattle.trace.proofs.Calls.{check-job, check-cut, check_done}
use Rattle.trace.proofs.check.Goals as goal

pub returns-in_err-refusal : goal.returns-in_err-refusal
returns-in_err-refusal c =
    let p = err_from_is_err_and c.from_residual.result c.from_residual.ensures.1 in
    rw (p.1, p.2) (check-job _ _ _ _ _ _ c.in_err-refusal.ensures (number-some c.in_err-refusal.field-0.0))

pub returns-in_err-trace_refusal : goal.returns-in_err-trace_refusal
returns-in_err-trace_refusal c =
    let p = err_from_is_err_and c.from_residual-in_err-trace_refusal.result c.from_residual-in_err-trace_refusal.ensures.1 in
    rw (p.1, p.2) (check-cut _ _ _ _ _ _ (sym c.in_ok-refusal.ensures) c.in_err-trace_refusal.ensures (number-some c.in_err-trace_refusal.field-0.0))

pub begin-begun-requires : goal.begin-begun-requires
begin-begun-requires c = record { none = sym c.in_ok-refusal.ensures }

pub judge_first-requires : goal.judge_first-requires
judge_first-requires c = (c.begin-begun.ensures.within, c.begin-begun.ensures.good)

pub returns : goal.returns
returns c = check_done _ _ _ _ _ _ _ (sym c.in_ok-refusal.ensures) (sym c.in_ok-trace_refusal.ensures) c.begin-begun.ensures c.judge_first.ensures
