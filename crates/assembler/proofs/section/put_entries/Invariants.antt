use mathlib.Core.Path.{◌≡◌}
use Prim.Native.Nat.{◌-◌, ◌≤◌}
use Rattle.assembler.specs.Section.{section_bytes}
use Rattle.hexdigits.specs.Over.{WroteAt}
use lib.ListN.{length, take}
use Rattle.assembler.proofs.section.put_entries.Given as goal

abbrev pub invariant-loop-i : goal.invariant-loop-i
invariant-loop-i l = (length l.out ≡ length l.initial.out) × WroteAt l.from (section_bytes (take l.i l.table)) l.initial.out l.out l.at
