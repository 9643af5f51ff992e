use mathlib.Core.Path.{◌≡◌}
use Prim.Native.Nat.{◌-◌, ◌≤◌}
use lib.ListN.{length}
use Rattle.hexdigits.specs.Over.{WroteAt}
use Rattle.assembler.specs.Source.{line_count}
use Rattle.assembler.specs.Labels.{labels_to}
use Rattle.assembler.proofs.labelling.put_labels.Given as goal

abbrev pub invariant-loop-i : goal.invariant-loop-i
invariant-loop-i l = (l.lines ≡ line_count l.source) × (length l.out ≡ length l.initial.out) × WroteAt 0 (labels_to l.source l.i) l.initial.out l.out l.at
