use mathlib.Core.Path.{◌≡◌}
use Prim.Native.Nat.{◌-◌, ◌≤◌}
use Rattle.assembler.specs.Source.{line_count, gives_at, giver_of}
use Rattle.optext.specs.First.{first_from}
use Rattle.assembler.proofs.source.giver.Given as goal

abbrev pub invariant-loop-i : goal.invariant-loop-i
invariant-loop-i l = (l.n ≡ line_count l.source) × (giver_of l.source l.u ≡ first_from (gives_at l.source l.u) (l.n - l.i) l.i)
