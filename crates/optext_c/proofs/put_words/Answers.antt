use native.Mathlib.Omega.{arith}
use lib.ListN.{length-set}
use Rattle.optext_c.proofs.Laws.{put_1, put_2, put_3}
use Rattle.optext_c.proofs.put_words.Goals as goal

pub bounds-out-1 : goal.bounds-out-1
bounds-out-1 c = simp length-set (omega arith)

pub returns-then-n-eq1 : goal.returns-then-n-eq1
returns-then-n-eq1 c = put_1 c.args.out.now c.args.n c.args.w c.args.x c.args.y c.requires.0 c.if-n-eq1.true c.low.ensures c.high.ensures

pub bounds-out-2 : goal.bounds-out-2
bounds-out-2 c = simp length-set (omega arith)

pub bounds-out-3 : goal.bounds-out-3
bounds-out-3 c = simp length-set (omega arith)

pub returns-then-n-eq2 : goal.returns-then-n-eq2
returns-then-n-eq2 c = put_2 c.args.out.now c.args.n c.args.w c.args.x c.args.y c.requires.0 c.if-n-eq2.true c.low.ensures c.high.ensures c.low-2.ensures c.high-2.ensures

pub bounds-out-4 : goal.bounds-out-4
bounds-out-4 c = simp length-set (omega arith)

pub bounds-out-5 : goal.bounds-out-5
bounds-out-5 c = simp length-set (omega arith)

pub returns : goal.returns
returns c = put_3 c.args.out.now c.args.n c.args.w c.args.x c.args.y c.requires.0 (omega (arith, c.if-n-eq2.false, c.if-n-eq1.false, c.requires.1, c.requires.2)) c.low.ensures c.high.ensures c.low-2.ensures c.high-2.ensures c.low-3.ensures c.high-3.ensures
