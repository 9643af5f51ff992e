use Rattle.hexdigits.specs.Over.{Wrote}
use Rattle.benchline.specs.Line.{fields}
use lib.ListN.{length}
use mathlib.Core.Path.{◌≡◌}
use Prim.Native.Nat.{◌*◌}
use Rattle.benchline.proofs.put_registers.Given as goal

abbrev pub invariant-loop-i : goal.invariant-loop-i
invariant-loop-i l = (length l.text ≡ length l.initial.text) × (l.at ≡ l.i * 5) × Wrote (fields l.regs l.i) l.initial.text l.text l.at
