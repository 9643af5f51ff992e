use mathlib.Core.Path.{◌≡◌}
use Prim.Native.Nat.{◌*◌}
use lib.ListN.{length}
use Rattle.hexdigits.specs.Over.{Wrote}
use Rattle.benchline.specs.Line.{fields}
use Rattle.listing.proofs.put_fields.Given as goal

abbrev pub invariant-loop-i : goal.invariant-loop-i
invariant-loop-i l = (length l.text ≡ length l.initial.text) × (l.at ≡ l.i * 5) × Wrote (fields l.values l.i) l.initial.text l.text l.at
