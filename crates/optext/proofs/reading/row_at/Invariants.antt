use Rattle.std.proofs.Common.{◌≡◌}
use Rattle.optext.specs.First.{best_below}
use Rattle.optext.specs.Guess.{head_far}
use Rattle.optext.proofs.reading.row_at.Given as goal

abbrev pub invariant-loop-place : goal.invariant-loop-place
invariant-loop-place l = (l.best.place ≡ best_below (head_far l.t) l.place) × (l.far ≡ head_far l.t l.best.place)
