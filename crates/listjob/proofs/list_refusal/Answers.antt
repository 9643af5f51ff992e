use mathlib.Core.Path.{refl, ◌∙◌}
use Rattle.std.proofs.lemmas.Result.{err_from_is_err_and}
use Rattle.refusal.proofs.Laws.Answer.{number-some}
use Rattle.hexdigits.proofs.Laws.Laid.{part-is-drop}
use Rattle.listjob.proofs.Laws.{why-short, why-cut, why-job, why-stretch, why-none}
use Rattle.listjob.proofs.list_refusal.Goals as goal

pub returns-then-text-lt-STRETCH_ROOM : goal.returns-then-text-lt-STRETCH_ROOM
returns-then-text-lt-STRETCH_ROOM c = why-short _ _ _ _ _ c.if-text-lt-STRETCH_ROOM.true

pub returns-then-input-lt4 : goal.returns-then-input-lt4
returns-then-input-lt4 c = why-cut _ _ _ _ _ c.if-text-lt-STRETCH_ROOM.false c.if-input-lt4.true

pub returns-in_err-refusal : goal.returns-in_err-refusal
returns-in_err-refusal c =
    let p = err_from_is_err_and c.from_residual.result c.from_residual.ensures.1 in
    rw (p.1, p.2) (why-job c.args.input.now _ _ _ _ c.if-text-lt-STRETCH_ROOM.false c.if-input-lt4.false _ (c.in_err-refusal.ensures ∙ rw (part-is-drop 4 c.args.input.now) refl) (number-some c.in_err-refusal.field-0.0))

pub returns-then-bad_stretch : goal.returns-then-bad_stretch
returns-then-bad_stretch c = why-stretch c.args.input.now _ _ _ _ c.if-text-lt-STRETCH_ROOM.false c.if-input-lt4.false _ (c.in_ok-refusal.ensures ∙ rw (part-is-drop 4 c.args.input.now) refl) refl _ (c.bad_stretch.ensures ∙ rw (c.word_at.ensures, c.word_at-2.ensures) refl) c.if-bad_stretch.true

pub returns : goal.returns
returns c = why-none c.args.input.now _ _ _ _ c.if-text-lt-STRETCH_ROOM.false c.if-input-lt4.false _ (c.in_ok-refusal.ensures ∙ rw (part-is-drop 4 c.args.input.now) refl) refl _ (c.bad_stretch.ensures ∙ rw (c.word_at.ensures, c.word_at-2.ensures) refl) c.if-bad_stretch.false
