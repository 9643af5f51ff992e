use Rattle.std.proofs.Common.{sym}
use Rattle.std.proofs.lemmas.Result.{err_from_is_err_and}
use Rattle.refusal.proofs.Laws.Answer.{number-some}
use Rattle.trace.proofs.Calls.{make-job, make-short, make-done}
use Rattle.trace.proofs.make.Goals as goal

pub returns-in_err-refusal : goal.returns-in_err-refusal
returns-in_err-refusal c =
    let p = err_from_is_err_and c.from_residual.result c.from_residual.ensures.1 in
    rw (p.1, p.2) (make-job _ _ _ _ _ _ c.in_err-refusal.ensures (number-some c.in_err-refusal.field-0.0))

pub returns-then-out-lt-LONGEST_TRACE : goal.returns-then-out-lt-LONGEST_TRACE
returns-then-out-lt-LONGEST_TRACE c = make-short _ _ _ _ _ (sym c.in_ok-refusal.ensures) c.if-out-lt-LONGEST_TRACE.true

pub begin-begun-requires : goal.begin-begun-requires
begin-begun-requires c = record { none = sym c.in_ok-refusal.ensures }

pub put_first-requires : goal.put_first-requires
put_first-requires c = (c.begin-begun.ensures.within, c.begin-begun.ensures.good)

pub returns : goal.returns
returns c = make-done _ _ _ _ _ _ _ (sym c.in_ok-refusal.ensures) c.begin-begun.ensures c.if-out-lt-LONGEST_TRACE.false c.put_first.ensures
