use mathlib.Core.Path.{◌≡◌}
use Prim.Native.Nat.{◌-◌, ◌≤◌}
use Rattle.assembler.specs.Source.{line_count, fails, lowest}
use Rattle.optext.specs.First.{first_from}
use Rattle.assembler.proofs.source.lowest_line.Given as goal

abbrev pub invariant-loop-i : goal.invariant-loop-i
invariant-loop-i l = (l.n ≡ line_count l.source) × (lowest l.f l.source ≡ first_from (fails l.f l.source) (l.n - l.i) l.i)
