use Rattle.std.proofs.lemmas.Result.{err_from_is_err_and}
use mathlib.Core.Path.{sym}
use native.Mathlib.Omega.{arith}
use lib.ListN.{length}
use Rattle.refusal.proofs.Laws.Answer.{number-some}
use Rattle.stepline.proofs.Laws.{ready, show-refused, show-answered}
use Rattle.stepline.proofs.write_step.Goals as goal

pub returns-in_err-show_refusal : goal.returns-in_err-show_refusal
returns-in_err-show_refusal c = let a = c.args in
    let p = err_from_is_err_and c.from_residual.result c.from_residual.ensures.1 in
    rw (p.1, p.2) (show-refused a.settings a.image.now a.map.now a.line a.number a.s a.text.now _ c.in_err-show_refusal.ensures (number-some c.in_err-show_refusal.field-0.0))

pub write_on-requires : goal.write_on-requires
write_on-requires c = let a = c.args in
    let k = ready a.settings (length a.image.now) a.map.now a.line (length a.text.now) (sym c.in_ok-show_refusal.ensures) in
    (k.room, record { pages = k.sound.pages; size = k.sound.bytes; bytes = λ i. omega (arith, c.slice_known-2-1.given i) }, k.board)

pub returns : goal.returns
returns c = let a = c.args in
    show-answered a.settings a.image.now a.map.now a.line a.number a.s a.text.now _ (sym c.in_ok-show_refusal.ensures) c.write_on.ensures
