use borrow.Author.Tests.{eq-eqb, ne_eqb}
use Rattle.answer.specs.Answer.{answer_why}
use Rattle.answer.proofs.refusal.Goals as goal

pub returns-then-answer-eq6 : goal.returns-then-answer-eq6
unfolding answer_why
returns-then-answer-eq6 c = rw (eq-eqb _ _ c.if-answer-eq6.true)

pub returns-else-answer-eq6 : goal.returns-else-answer-eq6
unfolding answer_why
returns-else-answer-eq6 c = rw (ne_eqb _ _ c.if-answer-eq6.false)
