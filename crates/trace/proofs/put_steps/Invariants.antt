use Prim.Native.Nat.{◌+◌, ◌*◌}
use mathlib.Core.Path.{◌≡◌}
use lib.ListN.{length, drop}
use lib.Seq.{sets}
use Rattle.board.specs.Exec.{Board, beside}
use Rattle.wordbytes.specs.Words.{bytes_in}
use Rattle.trace.specs.Trace.{entries_of, joined}
use Rattle.trace.specs.Walk.{trail, image_on}
use Rattle.trace.proofs.put_steps.Given as goal

abbrev pub invariant-loop-i : goal.invariant-loop-i
invariant-loop-i l = Board l.map (beside l.image l.log)
    × (length l.out ≡ length l.initial.out)
    × (sets l.out (2 + l.i * 20) (bytes_in (joined (entries_of (trail l.map (drop l.i l.lines) l.state l.image)))) ≡ sets l.initial.out 2 (bytes_in (joined (entries_of (trail l.map l.lines l.initial.state l.initial.image)))))
    × (image_on l.map (drop l.i l.lines) l.state l.image ≡ image_on l.map l.lines l.initial.state l.initial.image)
