use Rattle.std.proofs.lemmas.Result.{err_from_is_err_and}
use mathlib.Core.Path.{sym}
use native.Mathlib.Omega.{arith}
use lib.ListN.{length}
use Rattle.refusal.proofs.Laws.Answer.{number-some}
use Rattle.refusal.proofs.Laws.Refusal.{power-sound}
use Rattle.machine.proofs.Laws.Entry.{power-refused, power-answered}
use Rattle.machine.proofs.power_up.Goals as goal

pub returns-in_err-power_refusal : goal.returns-in_err-power_refusal
returns-in_err-power_refusal c =
    let p = err_from_is_err_and c.from_residual.result c.from_residual.ensures.1 in
    rw (p.1, p.2) (power-refused _ _ _ _ c.in_err-power_refusal.ensures (number-some c.in_err-power_refusal.field-0.0))

pub power-requires : goal.power-requires
power-requires c = let k = power-sound (length c.args.image.now) c.args.map.now _ _ _ (sym c.in_ok-power_refusal.ensures) in
    record { pages = k.pages; size = k.bytes; bytes = λ i. omega (arith, c.slice_known-1.given i) }

pub returns : goal.returns
returns c = power-answered _ _ _ _ _ (sym c.in_ok-power_refusal.ensures) c.power.ensures.came
