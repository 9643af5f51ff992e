use Rattle.board.proofs.Laws.{did-give}
use Rattle.step.specs.Xct.{traced}
use Rattle.step.proofs.xct.traced.Goals as goal

pub returns-then-b : goal.returns-then-b
unfolding traced
returns-then-b c = rw c.if-b.true c.trace.ensures

pub returns : goal.returns
unfolding traced
returns c = rw c.if-b.false (did-give c.requires)
