use Rattle.job.specs.Job.{why_read}
use borrow.Author.Tests.{eq-eqb, ne_eqb}
use Rattle.job.proofs.refusal.Goals as goal

pub returns-then-image-ne65536 : goal.returns-then-image-ne65536
unfolding why_read
returns-then-image-ne65536 c = simp (ne_eqb _ _ c.if-image-ne65536.true)

pub returns-then-map-ne256 : goal.returns-then-map-ne256
unfolding why_read
returns-then-map-ne256 c = simp (eq-eqb _ _ c.if-image-ne65536.false, ne_eqb _ _ c.if-map-ne256.true)

pub returns-then-lines-ne-MOST_LINE_WORDS : goal.returns-then-lines-ne-MOST_LINE_WORDS
unfolding why_read
returns-then-lines-ne-MOST_LINE_WORDS c = simp (eq-eqb _ _ c.if-image-ne65536.false, eq-eqb _ _ c.if-map-ne256.false, ne_eqb _ _ c.if-lines-ne-MOST_LINE_WORDS.true)

pub returns : goal.returns
unfolding why_read
returns c = simp (eq-eqb _ _ c.if-image-ne65536.false, eq-eqb _ _ c.if-map-ne256.false, eq-eqb _ _ c.if-lines-ne-MOST_LINE_WORDS.false) c.first_refusal.ensures
