use mathlib.Core.Path.{◌≡◌, ap}
use Prim.Native.Nat.{◌≤◌, ◌<◌}
use native.Mathlib.Omega.{arith}
use Rattle.patchline.proofs.Laws.Joined.{then_at, none-at}
use Rattle.patchline.proofs.Laws.{tail-some, tail_none, second-le}
use lib.ListN.{length}
use Rattle.patchline.specs.Line.{comma_at}
use Rattle.patchline.proofs.oneline.put_tail_at.Goals as goal

pub put_operand_at-requires : goal.put_operand_at-requires
put_operand_at-requires c = let k : length c.put_at-n.new.out ≡ length c.args.out.now = c.put_at-n.auto.out in
    let h = second-le c.args.t.now in
    (omega (arith, c.put_at-n.ensures.count, c.requires.0), omega (arith, ap length c.second.ensures, c.requires.1), c.requires.2)

pub returns-then-comma_at-t : goal.returns-then-comma_at-t
returns-then-comma_at-t c = let h : comma_at c.args.t.now < length c.args.t.now = omega (arith, c.comma_at.ensures.0, c.if-comma_at-t.true) in
    let k : c.args.at ≤ length c.args.out.now = omega (arith, c.requires.0) in
    rw (tail-some _ _ h, ← c.second.ensures) (then_at _ _ _ _ _ _ _ _ k c.put_at-n.ensures c.put_operand_at.ensures)

pub returns : goal.returns
returns c = let h : length c.args.t.now ≤ comma_at c.args.t.now = omega (arith, c.comma_at.ensures.0, c.if-comma_at-t.false) in
    rw (tail_none _ _ h) (none-at _ _)
