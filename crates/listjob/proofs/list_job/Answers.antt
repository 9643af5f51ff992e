use mathlib.Core.Path.{sym}
use Rattle.std.proofs.lemmas.Result.{err_from_is_err_and}
use Rattle.refusal.proofs.Laws.Answer.{number-some}
use native.Mathlib.Omega.{arith}
use Rattle.hexdigits.proofs.Laws.Laid.{part-is-drop}
use Rattle.job.proofs.Laws.{read-lengths}
use Rattle.listjob.specs.Stretch.{job_in}
use Rattle.listjob.proofs.Laws.{list-refused, taken_is, lists-is, list_done}
use Rattle.listjob.proofs.list_job.Goals as goal

pub returns-in_err-list_refusal : goal.returns-in_err-list_refusal
returns-in_err-list_refusal c =
    let p = err_from_is_err_and c.from_residual.result c.from_residual.ensures.1 in
    rw (p.1, p.2) (list-refused c.args.input.now c.args.text.now c.args.image.now c.args.map.now c.args.lines.now _ c.in_err-list_refusal.ensures (number-some c.in_err-list_refusal.field-0.0))

pub slice_bounds-fill-count : goal.slice_bounds-fill-count
slice_bounds-fill-count c = (taken_is c.args.input.now c.args.text.now c.args.image.now c.args.map.now c.args.lines.now (sym c.in_ok-list_refusal.ensures)).some

pub slice_bounds-fill-start : goal.slice_bounds-fill-start
slice_bounds-fill-start c = omega (arith, (taken_is c.args.input.now c.args.text.now c.args.image.now c.args.map.now c.args.lines.now (sym c.in_ok-list_refusal.ensures)).some)

pub fill-requires : goal.fill-requires
fill-requires c = read-lengths _ _ _ (job_in c.args.input.now) (taken_is c.args.input.now c.args.text.now c.args.image.now c.args.map.now c.args.lines.now (sym c.in_ok-list_refusal.ensures)).read

pub list_all-requires : goal.list_all-requires
list_all-requires c = lists-is c.args.input.now c.args.text.now c.args.image.now c.args.map.now c.args.lines.now (sym c.in_ok-list_refusal.ensures) _ _ _ _ _ _ (rw (part-is-drop 4 c.args.input.now) at c.fill.ensures) c.word_at.ensures c.word_at-2.ensures

pub returns : goal.returns
returns c = list_done c.args.input.now c.args.text.now c.args.image.now c.args.map.now c.args.lines.now (sym c.in_ok-list_refusal.ensures) _ _ _ _ _ _ _ _ (rw (part-is-drop 4 c.args.input.now) at c.fill.ensures) c.word_at.ensures c.word_at-2.ensures c.list_all.ensures
