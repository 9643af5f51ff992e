use Rattle.std.proofs.lemmas.Result.{err_from_is_err_and}
use mathlib.Core.Path.{sym}
use native.Mathlib.Omega.{arith}
use lib.ListN.{length}
use Rattle.refusal.proofs.Laws.Answer.{number-some}
use Rattle.refusal.proofs.Laws.Refusal.{run_sound}
use Rattle.machine.proofs.Laws.Entry.{run-refused, run-answered}
use Rattle.machine.proofs.run.Goals as goal

pub returns-in_err-run_refusal : goal.returns-in_err-run_refusal
returns-in_err-run_refusal c =
    let p = err_from_is_err_and c.from_residual.result c.from_residual.ensures.1 in
    rw (p.1, p.2) (run-refused _ _ _ _ _ _ c.in_err-run_refusal.ensures (number-some c.in_err-run_refusal.field-0.0))

pub run_on-last-requires : goal.run_on-last-requires
run_on-last-requires c = let k = run_sound (length c.args.image.now) c.args.map.now _ _ _ c.args.lines.now (sym c.in_ok-run_refusal.ensures) in
    (record { pages = k.0.pages; size = k.0.bytes; bytes = λ i. omega (arith, c.slice_known-1.given i) }, k.1)

pub returns : goal.returns
returns c = run-answered _ _ _ _ _ _ _ (sym c.in_ok-run_refusal.ensures) c.run_on-last.ensures.same
