use Rattle.job.specs.Job.{why_address}
use borrow.Author.Tests.{eq-eqb, ne_eqb, le-leb, lt-leb}
use Rattle.job.proofs.address_refusal.Goals as goal

pub returns-then-address-ne0 : goal.returns-then-address-ne0
unfolding why_address
returns-then-address-ne0 c = simp (ne_eqb _ _ c.if-address-ne0.true)

pub returns-then-address-low : goal.returns-then-address-low
unfolding why_address
returns-then-address-low c = simp (eq-eqb _ _ c.if-address-ne0.false, lt-leb _ _ c.if-address-low.true)

pub returns-then-fitted-page-eq1 : goal.returns-then-fitted-page-eq1
unfolding why_address
returns-then-fitted-page-eq1 c = simp (eq-eqb _ _ c.if-address-ne0.false, le-leb _ _ c.if-address-low.false, eq-eqb _ _ c.if-fitted-page-eq1.true)

pub returns-else-fitted-page-eq1 : goal.returns-else-fitted-page-eq1
unfolding why_address
returns-else-fitted-page-eq1 c = simp (eq-eqb _ _ c.if-address-ne0.false, le-leb _ _ c.if-address-low.false, ne_eqb _ _ c.if-fitted-page-eq1.false)
