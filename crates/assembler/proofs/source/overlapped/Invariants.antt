use mathlib.Core.Path.{◌≡◌}
use Prim.Native.Nat.{◌-◌, ◌≤◌}
use Rattle.assembler.specs.Source.{overlaps}
use Rattle.optext.specs.First.{first_from}
use Rattle.assembler.proofs.source.overlapped.Given as goal

abbrev pub invariant-loop-k : goal.invariant-loop-k
invariant-loop-k l = (first_from (overlaps l.source l.i) l.i 0 ≡ first_from (overlaps l.source l.i) (l.i - l.k) l.k)
