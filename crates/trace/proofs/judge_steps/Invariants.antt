use mathlib.Core.Path.{◌≡◌}
use lib.ListN.{drop}
use Rattle.board.specs.Exec.{Board, beside}
use Rattle.trace.specs.Trace.{entries_of, told_in, or_else, compared}
use Rattle.trace.specs.Walk.{told_from, trail, image_on}
use Rattle.trace.proofs.judge_steps.Given as goal

abbrev pub invariant-loop-i : goal.invariant-loop-i
invariant-loop-i l = Board l.map (beside l.image l.log)
    × (or_else l.found (compared l.i (entries_of (trail l.map (drop l.i l.lines) l.state l.image)) (told_from l.trace l.i)) ≡ compared 0 (entries_of (trail l.map l.lines l.initial.state l.initial.image)) (told_in l.trace))
    × (image_on l.map (drop l.i l.lines) l.state l.image ≡ image_on l.map l.lines l.initial.state l.initial.image)
