use Rattle.board.proofs.Laws.{did-give, did-saw}
use Rattle.opcodes.proofs.Laws.Past.{at_least}
use Rattle.format1.specs.Format1.{format1}
use Rattle.format1.proofs.Laws.Format1.{format1-last}
use Rattle.format1.proofs.by_number.Goals as goal

pub returns-in-0 : goal.returns-in-0
unfolding format1
returns-in-0 c = rw c.in-0.is (did-give c.requires)

pub returns-in-1 : goal.returns-in-1
unfolding format1
returns-in-1 c = rw c.in-1.is (did-give c.requires)

pub returns-in-2 : goal.returns-in-2
unfolding format1
returns-in-2 c = rw (c.in-2.is, c.ien.ensures) (did-give c.requires)

pub returns-in-3 : goal.returns-in-3
unfolding format1
returns-in-3 c = rw (c.in-3.is, c.with_i2.ensures) (did-give c.requires)

pub returns-in-4 : goal.returns-in-4
unfolding format1
returns-in-4 c = rw (c.in-4.is, c.halt.ensures) (did-give c.requires)

pub returns-in-5 : goal.returns-in-5
unfolding format1
returns-in-5 c = rw c.in-5.is (did-give c.requires)

pub returns-in-6 : goal.returns-in-6
unfolding format1
returns-in-6 c = rw c.in-6.is c.bpt.ensures

pub returns-in-7 : goal.returns-in-7
unfolding format1
returns-in-7 c = rw (c.in-7.is, c.wfi.ensures) (did-give c.requires)

pub returns-in-8 : goal.returns-in-8
unfolding format1
returns-in-8 c = rw c.in-8.is (did-saw c.requires c.rsvc.ensures)

pub returns-in-9 : goal.returns-in-9
unfolding format1
returns-in-9 c = rw c.in-9.is (did-saw c.requires c.rrtt.ensures)

pub returns-in-10 : goal.returns-in-10
unfolding format1
returns-in-10 c = rw c.in-10.is c.save.ensures

pub returns-in-11 : goal.returns-in-11
unfolding format1
returns-in-11 c = rw c.in-11.is c.savs.ensures

pub returns-in-12 : goal.returns-in-12
unfolding format1
returns-in-12 c = rw c.in-12.is (did-saw c.requires c.rest.ensures)

pub returns-in-13 : goal.returns-in-13
unfolding format1
returns-in-13 c = rw c.in-13.is (did-saw c.requires c.rrtn.ensures)

pub returns-in-14 : goal.returns-in-14
unfolding format1
returns-in-14 c = rw c.in-14.is c.rsts.ensures

pub returns-in_default : goal.returns-in_default
unfolding format1
returns-in_default c = rw (format1-last _ _ _ (at_least 15 c.args.op c.in_default.in_default-own.rest)) (did-saw c.requires c.rtt.ensures)
