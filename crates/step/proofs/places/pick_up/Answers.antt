use Rattle.board.proofs.Laws.{saw-then, saw-fail, saw-give}
use Rattle.step.specs.Places.{pick_up}
use Rattle.step.proofs.places.pick_up.Goals as goal

pub returns-in_err-v : goal.returns-in_err-v
unfolding pick_up
returns-in_err-v c = saw-fail _ (rw c.plus-place.ensures at c.load.ensures) c.in_err-v.was c.from_residual.ensures.1

pub returns : goal.returns
unfolding pick_up
returns c = saw-then _ (rw c.plus-place.ensures at c.load.ensures) c.in_ok-v.was (rw c.with_reg.ensures saw-give)
