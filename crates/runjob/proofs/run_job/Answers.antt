use native.Mathlib.Omega.{arith}
use Rattle.std.proofs.lemmas.Result.{err_from_is_err_and}
use Rattle.runjob.proofs.Laws.{bench-short, bench-refused, bench-done}
use Rattle.runjob.proofs.run_job.Goals as goal

pub returns-then-text-lt61 : goal.returns-then-text-lt61
returns-then-text-lt61 c = bench-short _ _ _ _ _ c.if-text-lt61.true

pub returns-in_err-ran : goal.returns-in_err-ran
returns-in_err-ran c =
    let a = c.args in
    let p = err_from_is_err_and c.from_residual.result c.from_residual.ensures.1 in
    rw (p.1, p.2) (bench-refused a.input.now a.text.now a.image.now a.map.now a.lines.now (omega (arith, c.if-text-lt61.false)) _ _ _ _ c.run.ensures _ c.in_err-ran.was)

pub returns : goal.returns
returns c = let a = c.args in
    bench-done a.input.now a.text.now a.image.now a.map.now a.lines.now (omega (arith, c.if-text-lt61.false)) _ _ _ _ c.run.ensures _ c.write_end.result _ c.in_ok-ran.was c.write_end.ensures
