use mathlib.Core.Path.{sym}
use Rattle.std.proofs.lemmas.Result.{err_from_is_err_and}
use Rattle.refusal.proofs.Laws.Answer.{number-some}
use lib.ListN.{length}
use Rattle.assembler.proofs.Laws.Labels.{labels-refused, labels-answered}
use Rattle.assembler.proofs.Checked.{source_sound}
use Rattle.assembler.proofs.labels.Goals as goal

pub returns-in_err-source_refusal : goal.returns-in_err-source_refusal
returns-in_err-source_refusal c =
    let p = err_from_is_err_and c.from_residual.result c.from_residual.ensures.1 in
    rw (p.1, p.2) (labels-refused c.args.source.now c.args.out.now _ c.in_err-source_refusal.ensures (number-some c.in_err-source_refusal.field-0.0))

pub label_lines-requires : goal.label_lines-requires
label_lines-requires c = source_sound _ c.args.source.now (length c.args.out.now) (sym c.in_ok-source_refusal.ensures)

pub returns : goal.returns
returns c = labels-answered c.args.source.now c.args.out.now _ (sym c.in_ok-source_refusal.ensures) c.label_lines.ensures
