use Prim.Native.Nat.{◌≤◌}
use mathlib.Core.Path.{◌≡◌}
use lib.ListN.{length}
use Rattle.board.specs.Exec.{beside, back, undone}
use Rattle.board.proofs.rollback.Given as goal

abbrev pub invariant-loop-n : goal.invariant-loop-n
invariant-loop-n l = (l.n ≤ 15) × ((length l.image ≡ 65536) × (back l.n l.log l.image ≡ undone (beside l.initial.image l.log)))

abbrev pub decreases-loop-n : goal.decreases-loop-n
decreases-loop-n l = l.n
