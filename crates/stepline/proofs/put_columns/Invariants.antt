use Prim.Native.Nat.{◌*◌}
use mathlib.Core.Path.{◌≡◌}
use lib.ListN.{length}
use Rattle.hexdigits.specs.Over.{Wrote}
use Rattle.stepline.specs.Shown.{columns}
use Rattle.stepline.proofs.put_columns.Given as goal

abbrev pub invariant-loop-x : goal.invariant-loop-x
invariant-loop-x l = (length l.text ≡ length l.initial.text) × (l.at ≡ l.x-index * 5) × Wrote (columns l.fn.values l.x-index) l.initial.text l.text l.at
