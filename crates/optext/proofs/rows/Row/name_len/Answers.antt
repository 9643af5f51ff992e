use Rattle.std.proofs.Common.{arith}
use Rattle.optext.proofs.Laws.Table.{name-ends, name-goes, name-le}
use Rattle.optext.proofs.rows.Row.name_len.Goals as goal

pub loop-i-init : goal.loop-i-init
loop-i-init c = omega arith

pub returns-then-letter-eq32 : goal.returns-then-letter-eq32
returns-then-letter-eq32 c = (name-ends c.args.self.place c.loop-i.i _ c.args.self.inside c.loop-i.invariant c.loop-i-test.true c.letter.ensures c.if-letter-eq32.true, omega arith)

pub loop-i-preserved : goal.loop-i-preserved
loop-i-preserved c = let h = name-goes c.args.self.place c.loop-i.i _ c.loop-i-test.true c.letter.ensures c.if-letter-eq32.false in omega arith

pub returns : goal.returns
returns c = let h = name-le c.args.self.place c.args.self.inside in
    (omega arith, omega arith)
