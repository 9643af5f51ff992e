use Prim.Native.Nat.{◌≤◌}
use native.Mathlib.Omega.{arith}
use Rattle.patchline.proofs.Laws.{filled-in-le}
use lib.ListN.{length}
use Rattle.patchline.specs.Line.{filled_in}
use Rattle.hexdigits.proofs.Laws.Laid.{at_part}
use Rattle.patchline.proofs.oneline.put_operand_at.Goals as goal

pub overflow_add-result : goal.overflow_add-result
overflow_add-result c = let h = filled-in-le c.args.d.now c.args.o.now in omega (arith, c.put_operand-n.ensures.count, c.requires.0, c.requires.1, c.requires.2)

pub returns : goal.returns
returns c = let a = c.args in
    let h : a.at ≤ length a.out.now = omega arith in
    at_part a.at c.put_operand-n.result (filled_in a.d.now a.o.now) a.out.now c.put_operand-n.new.out h c.put_operand-n.ensures
