use Prim.Native.Nat.{◌-◌, ◌≤◌}
use mathlib.Core.Path.{◌≡◌}
use lib.ListN.{replicate}
use Rattle.board.specs.Exec.{Lent}
use Rattle.machine.specs.Run.{rest_of_run, run_of}
use Rattle.machine.specs.Same.{Tallied}
use Rattle.machine.proofs.same.parts.Given as goal

abbrev pub invariant-loop-done : goal.invariant-loop-done
invariant-loop-done l = (l.done ≤ l.steps) × Lent l.map l.image × Tallied l.done l.ran.tally × (rest_of_run l.settings l.map l.done (replicate (l.steps - l.done) l.line) l.ran.state l.image l.ran.tally ≡ run_of l.settings l.map (replicate l.steps l.line) l.initial.ran.state l.initial.image)

abbrev pub decreases-loop-done : goal.decreases-loop-done
decreases-loop-done l = l.steps - l.done
