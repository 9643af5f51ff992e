use borrow.Author.Tests.{lt-ltb, le-ltb}
use Rattle.format7.specs.Rows.{result_at}
use Rattle.format7.proofs.word_result.Goals as goal

pub returns-then-row-lt12 : goal.returns-then-row-lt12
unfolding result_at
returns-then-row-lt12 c = rw (lt-ltb _ _ c.if-row-lt12.true) (rw (c.unary_at.ensures, c.in_register.ensures) at c.unary.ensures)

pub returns : goal.returns
unfolding result_at
returns c = rw (le-ltb _ _ c.if-row-lt12.false) c.further_word.ensures
