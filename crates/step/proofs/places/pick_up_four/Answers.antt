use Rattle.board.proofs.Laws.{saw-then, saw-fail}
use Rattle.step.specs.Places.{pick_up_four}
use Rattle.step.proofs.places.pick_up_four.Goals as goal

pub returns-in_err-s1 : goal.returns-in_err-s1
unfolding pick_up_four
returns-in_err-s1 c = saw-fail _ c.pick_up.ensures c.in_err-s1.was c.from_residual.ensures.1

pub returns-in_err-s2 : goal.returns-in_err-s2
unfolding pick_up_four
returns-in_err-s2 c = saw-then _ c.pick_up.ensures c.in_ok-s1.was
    (saw-fail _ c.pick_up-2.ensures c.in_err-s2.was c.from_residual-in_err-s2.ensures.1)

pub returns-in_err-s3 : goal.returns-in_err-s3
unfolding pick_up_four
returns-in_err-s3 c = saw-then _ c.pick_up.ensures c.in_ok-s1.was
    (saw-then _ c.pick_up-2.ensures c.in_ok-s2.was
    (saw-fail _ c.pick_up-3.ensures c.in_err-s3.was c.from_residual-in_err-s3.ensures.1))

pub returns : goal.returns
unfolding pick_up_four
returns c = saw-then _ c.pick_up.ensures c.in_ok-s1.was
    (saw-then _ c.pick_up-2.ensures c.in_ok-s2.was
    (saw-then _ c.pick_up-3.ensures c.in_ok-s3.was c.pick_up-4.ensures))
