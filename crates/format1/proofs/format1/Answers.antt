use Rattle.board.proofs.Laws.{did-saw}
use Rattle.format1.specs.Format1.{format1}
use Rattle.format1.proofs.format1.Goals as goal

pub returns-then-op-eq10 : goal.returns-then-op-eq10
unfolding format1
returns-then-op-eq10 c = rw (c.if-op-eq10.true, c.apart.ensures) c.save.ensures

pub returns-then-op-eq12 : goal.returns-then-op-eq12
unfolding format1
returns-then-op-eq12 c = rw c.if-op-eq12.true (did-saw c.requires c.rest.ensures)

pub returns-then-op-eq15 : goal.returns-then-op-eq15
unfolding format1
returns-then-op-eq15 c = rw c.if-op-eq15.true (did-saw c.requires c.rtt.ensures)
