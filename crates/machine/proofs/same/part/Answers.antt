use Prim.Native.Nat.{◌-◌}
use lib.ListN.{length}
use native.Mathlib.Omega.{arith}
use Rattle.machine.proofs.Laws.Same.{run-tallied, among_below, parted}
use Rattle.machine.proofs.same.part.Goals as goal

pub joined-requires : goal.joined-requires
joined-requires c = let k = run-tallied _ _ c.args.lines.now _ _ _ _ c.run_on-last.ensures.same in
    (omega (arith, k.few, c.requires.1.few, c.requires.3), among_below (length c.args.lines.now) (65536 - c.args.done) c.run_on-last.result.ran.tally.first (omega (arith, c.requires.3)) k.among)

pub returns : goal.returns
returns c = parted _ _ _ _ _ _ _ _ _ c.requires.1 c.run_on-last.ensures.lent c.run_on-last.ensures.same c.joined.ensures
