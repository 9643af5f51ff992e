use Rattle.std.proofs.Common.{refl, sym, ◌∙◌, arith}
use Rattle.std.proofs.lemmas.Result.{err_from_is_err_and}
use Rattle.refusal.proofs.Laws.Answer.{number-some}
use Rattle.job.specs.Job.{sections, why_job}
use Rattle.job.proofs.Laws.{sections-end, section-absent, section-refused, section-taken}
use Rattle.job.proofs.first_refusal.Goals as goal

pub loop-s-init : goal.loop-s-init
unfolding why_job
loop-s-init c = (omega arith, refl)

pub returns-then-absent : goal.returns-then-absent
unfolding sections
returns-then-absent c = section-absent _ _ c.loop-s.s-index _ _ c.loop-s.invariant.1 _ c.loop-s-test.true refl (sym c.absent.ensures ∙ c.if-absent.true)

pub returns-in_err-at : goal.returns-in_err-at
unfolding sections
returns-in_err-at c =
    let p = err_from_is_err_and c.from_residual.result c.from_residual.ensures.1 in
    rw (p.1, p.2) (section-refused _ _ c.loop-s.s-index _ _ c.loop-s.invariant.1 _ c.loop-s-test.true refl (sym c.absent.ensures ∙ c.if-absent.false) _ c.in_err-at.ensures.refused (number-some c.in_err-at.field-0.0))

pub loop-s-preserved : goal.loop-s-preserved
unfolding sections
loop-s-preserved c = (
  c.in_ok-at.ensures.place.1,
  section-taken _ _ c.loop-s.s-index _ _ c.loop-s.invariant.1 _ c.loop-s-test.true refl (sym c.absent.ensures ∙ c.if-absent.false) c.in_ok-at.ensures.refused c.in_ok-at.ensures.place.0 c.in_ok-at.ensures.noted,
)

pub returns : goal.returns
returns c = sections-end _ _ c.loop-s.s-index _ _ c.loop-s.invariant.1 _ (omega (arith, c.loop-s-test.false, c.loop-s.auto.s-index-end)) c.rest_refusal.ensures
