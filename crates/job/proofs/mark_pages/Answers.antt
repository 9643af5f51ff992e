use Rattle.std.proofs.Common.{◌∙◌, length-set, arith}
use Rattle.job.proofs.Laws.{marked_more, marked-end}
use Rattle.job.proofs.mark_pages.Goals as goal

pub loop-k-preserved : goal.loop-k-preserved
loop-k-preserved c = (
  simp length-set c.loop-k.invariant.0,
  marked_more _ _ _ _ _ (omega (arith, c.loop-k-test.true)) (omega arith) c.byte_at-page.ensures ∙ c.loop-k.invariant.1,
)

pub returns : goal.returns
returns c = (marked-end _ c.args.input.now _ _ _ (omega (arith, c.loop-k-test.false)) ∙ c.loop-k.invariant.1, c.loop-k.invariant.0)
