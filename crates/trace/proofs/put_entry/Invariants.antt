use Prim.Native.Nat.{◌+◌, ◌*◌}
use mathlib.Core.Path.{◌≡◌}
use lib.ListN.{length, drop}
use lib.Seq.{sets}
use Rattle.wordbytes.specs.Words.{bytes_in}
use Rattle.trace.proofs.put_entry.Given as goal

abbrev pub invariant-loop-field : goal.invariant-loop-field
invariant-loop-field l = (length l.out ≡ length l.initial.out) × (sets l.out (l.at + l.field * 2) (bytes_in (drop l.field l.fn.entry)) ≡ sets l.initial.out l.at (bytes_in l.fn.entry))
