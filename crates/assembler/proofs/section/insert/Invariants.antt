use mathlib.Core.Path.{◌≡◌}
use mathlib.Core.List.{◌++◌}
use Prim.Native.Nat.{◌-◌, ◌≤◌}
use Rattle.assembler.specs.Section.{inserted}
use lib.ListN.{length, take, drop}
use Rattle.assembler.proofs.section.insert.Given as goal

abbrev pub invariant-loop-k : goal.invariant-loop-k
invariant-loop-k l = (length l.table ≡ 3072) × (take l.k l.table ++ inserted l.carry (drop l.k (take l.n l.table)) ≡ inserted l.x (take l.n l.initial.table))
