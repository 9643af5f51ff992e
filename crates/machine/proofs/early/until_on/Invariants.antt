use Prim.Native.Nat.{◌+◌, ◌-◌, ◌≤◌}
use mathlib.Core.Path.{◌≡◌}
use lib.ListN.{length, drop}
use Rattle.board.specs.Exec.{beside, Board}
use Rattle.machine.specs.Until.{steps_to}
use Rattle.machine.proofs.Laws.Until.{Onto}
use Rattle.machine.proofs.early.until_on.Given as goal

abbrev pub invariant-loop-stage : goal.invariant-loop-stage
invariant-loop-stage l = (l.stage.at ≤ length l.lines) × (l.stage.tally.blanks ≤ l.stage.at) × Board l.map (beside l.image l.log) × Onto l.settings l.map l.lines l.initial.stage.state l.initial.image l.stage l.image
    × (l.stage.at + steps_to l.settings l.map l.until (drop l.stage.at l.lines) l.stage.state l.image ≡ steps_to l.settings l.map l.until l.lines l.initial.stage.state l.initial.image)

abbrev pub decreases-loop-stage : goal.decreases-loop-stage
decreases-loop-stage l = length l.lines - l.stage.at
