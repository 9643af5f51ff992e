use mathlib.Core.Path.{refl}
use Prim.Native.Nat.{◌-◌}
use native.Mathlib.Omega.{arith}
use Rattle.assembler.proofs.Sorted.{insert-none, insert-more, insert-end}
use lib.ListN.{length-set}
use Rattle.assembler.proofs.section.insert.Goals as goal

pub loop-k-init : goal.loop-k-init
loop-k-init c = (c.requires.1, insert-none c.args.table.now c.args.n c.args.x)

pub loop-k-preserved : goal.loop-k-preserved
loop-k-preserved c = let l = c.loop-k in (simp length-set l.invariant.0, insert-more l.table _ c.args.n l.k l.carry c.loop-k-test.true (omega (arith, l.invariant.0, c.requires.0)) _ _ _ refl c.lower.ensures c.higher-carry.ensures l.invariant.1)

pub overflow_add-result : goal.overflow_add-result
overflow_add-result c = omega (arith, c.requires.0)

pub returns : goal.returns
returns c = let l = c.loop-k in record { entries = insert-end l.table _ c.args.n l.k l.carry (omega arith) (omega (arith, l.invariant.0, c.requires.0)) l.invariant.1; count = refl; size = simp length-set l.invariant.0 }
