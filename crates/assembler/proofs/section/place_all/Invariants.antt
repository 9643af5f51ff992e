use mathlib.Core.Path.{◌≡◌}
use Prim.Native.Nat.{◌-◌, ◌*◌, ◌≤◌}
use Rattle.assembler.specs.Section.{words_placed}
use Rattle.assembler.specs.Source.{line_count}
use lib.ListN.{length, take}
use Rattle.assembler.proofs.section.place_all.Given as goal

abbrev pub invariant-loop-i : goal.invariant-loop-i
invariant-loop-i l = (l.lines ≡ line_count l.source) × (l.n ≤ 3 * l.i) × (length l.table ≡ 3072) × (take l.n l.table ≡ words_placed l.source l.i)
