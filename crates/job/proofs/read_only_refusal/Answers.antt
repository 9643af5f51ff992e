use borrow.Author.Tests.{le-leb, lt-leb, eq-eqb, ne_eqb}
use Rattle.job.specs.Job.{why_read_only}
use Rattle.job.proofs.read_only_refusal.Goals as goal

pub returns-then-page-low : goal.returns-then-page-low
unfolding why_read_only
returns-then-page-low c = simp (lt-leb _ _ c.if-page-low.true)

pub returns-then-fitted-at-eq1 : goal.returns-then-fitted-at-eq1
unfolding why_read_only
returns-then-fitted-at-eq1 c = simp (le-leb _ _ c.if-page-low.false, eq-eqb _ _ c.if-fitted-at-eq1.true)

pub returns-else-fitted-at-eq1 : goal.returns-else-fitted-at-eq1
unfolding why_read_only
returns-else-fitted-at-eq1 c = simp (le-leb _ _ c.if-page-low.false, ne_eqb _ _ c.if-fitted-at-eq1.false)
