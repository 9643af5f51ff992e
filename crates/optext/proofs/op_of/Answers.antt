use Rattle.std.proofs.Common.{arith}
use Rattle.optext.specs.Line.{op_text}
use Rattle.optext.proofs.Laws.AsOp.{same_ends, op-taken, op-refused, words-le}
use Rattle.optext.proofs.op_of.Goals as goal

pub returns-then-m-text : goal.returns-then-m-text
returns-then-m-text c = let g = c.decode-g.result in
    let t = c.args.text.now in
    let q = same_ends t (op_text g.w g.x g.y) _ _ (rw c.of-first.ensures at c.compare-m.ensures.0) (rw c.of-first.ensures at c.compare-m.ensures.1) in
    (op-taken t g c.decode-g.ensures _ q _ _ c.if-m-text.true (rw c.of-first.ensures at c.store-count.ensures), omega (arith, rw c.of-first.ensures at c.store-count.ensures.count, words-le g.w g.x g.y))

pub returns : goal.returns
returns c = let g = c.decode-g.result in
    let t = c.args.text.now in
    let q = same_ends t (op_text g.w g.x g.y) _ _ (rw c.of-first.ensures at c.compare-m.ensures.0) (rw c.of-first.ensures at c.compare-m.ensures.1) in
    (op-refused t g c.decode-g.ensures _ q c.if-m-text.false, tt)
