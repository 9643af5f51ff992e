use borrow.Author.Tests.{lt-ltb, le-ltb, eq-eqb, ne_eqb}
use Rattle.assembler.specs.Answer.{source_why}
use Rattle.assembler.proofs.source_refusal.Goals as goal

pub returns-then-out-room : goal.returns-then-out-room
unfolding source_why
returns-then-out-room c = simp (lt-ltb _ _ c.if-out-room.true)

pub returns-then-source-ne0 : goal.returns-then-source-ne0
unfolding source_why
returns-then-source-ne0 c = simp (le-ltb _ _ c.if-out-room.false, ne_eqb _ _ c.if-source-ne0.true)

pub returns-then-lines-gt-MOST_LINES : goal.returns-then-lines-gt-MOST_LINES
unfolding source_why
returns-then-lines-gt-MOST_LINES c = simp (le-ltb _ _ c.if-out-room.false, eq-eqb _ _ c.if-source-ne0.false, lt-ltb 1024 _ (rw c.count-lines.ensures at c.if-lines-gt-MOST_LINES.true))

pub returns : goal.returns
unfolding source_why
returns c = simp (le-ltb _ _ c.if-out-room.false, eq-eqb _ _ c.if-source-ne0.false, le-ltb 1024 _ (rw c.count-lines.ensures at c.if-lines-gt-MOST_LINES.false))
