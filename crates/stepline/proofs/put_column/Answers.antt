use native.Mathlib.Omega.{arith}
use lib.ListN.{length-set}
use Rattle.hexdigits.proofs.Laws.Laid.{wrote-sets}
use Rattle.stepline.specs.Shown.{column}
use Rattle.stepline.proofs.put_column.Goals as goal

pub bounds-out-1 : goal.bounds-out-1
bounds-out-1 c = simp length-set (omega arith)

pub bounds-out-2 : goal.bounds-out-2
bounds-out-2 c = simp length-set (omega arith)

pub bounds-out-3 : goal.bounds-out-3
bounds-out-3 c = simp length-set (omega arith)

pub returns : goal.returns
unfolding column
returns c = rw (c.mark.ensures, c.mark-2.ensures, c.mark-3.ensures, c.mark-4.ensures) (wrote-sets (column c.args.x) c.args.out.now (omega arith))
