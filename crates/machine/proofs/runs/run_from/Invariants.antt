use Prim.Native.Nat.{◌≤◌}
use mathlib.Core.Path.{◌≡◌}
use lib.ListN.{drop}
use Rattle.board.specs.Exec.{beside, Board}
use Rattle.state.specs.State.{heard}
use Rattle.step.specs.declared.Cause.TheVariants as Cause
use Rattle.step.specs.Inner.{calm}
use Rattle.machine.specs.Run.{rest_of_run, run_of, last_cause}
use Rattle.machine.proofs.runs.run_from.Given as goal

abbrev pub invariant-loop-i : goal.invariant-loop-i
invariant-loop-i l = (l.tally.blanks ≤ l.i) × (rest_of_run l.settings l.map l.i (drop l.i l.lines) l.state l.image l.tally ≡ run_of l.settings l.map l.lines l.initial.state l.initial.image) × (last_cause l.settings l.map (drop l.i l.lines) l.state l.image l.cause ≡ last_cause l.settings l.map l.lines l.initial.state l.initial.image Cause.Nothing) × Board l.map (beside l.image l.log) × (l.out ≡ heard l.settings l.line) × (l.quiet ≡ calm l.out)
