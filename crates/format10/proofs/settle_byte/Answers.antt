use Rattle.board.proofs.Laws.{did-give}
use Rattle.format10.specs.Format10.{settle_byte}
use Rattle.format10.proofs.settle_byte.Goals as goal

pub returns-in-Cmpb : goal.returns-in-Cmpb
unfolding settle_byte
returns-in-Cmpb c = rw c.in-Cmpb.is (did-give c.requires)

pub returns-in-Movb : goal.returns-in-Movb
unfolding settle_byte
returns-in-Movb c = rw c.in-Movb.is c.move_byte.ensures

pub returns-in-Bisb : goal.returns-in-Bisb
unfolding settle_byte
returns-in-Bisb c = rw c.in-Bisb.is c.write.ensures
