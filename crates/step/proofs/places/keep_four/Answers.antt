use Rattle.board.proofs.Laws.{did-then, did-fail}
use Rattle.step.specs.Places.{keep_four}
use Rattle.step.proofs.places.keep_four.Goals as goal

pub returns-in_err-keep : goal.returns-in_err-keep
unfolding keep_four
returns-in_err-keep c = did-fail _ c.keep.ensures c.in_err-keep.was c.from_residual.ensures.1

pub returns-in_err-keep-2 : goal.returns-in_err-keep-2
unfolding keep_four
returns-in_err-keep-2 c = did-then _ c.keep.ensures c.in_ok-keep.was
    (did-fail _ c.keep-2.ensures c.in_err-keep-2.was c.from_residual-in_err-keep-2.ensures.1)

pub returns-in_err-keep-3 : goal.returns-in_err-keep-3
unfolding keep_four
returns-in_err-keep-3 c = did-then _ c.keep.ensures c.in_ok-keep.was
    (did-then _ c.keep-2.ensures c.in_ok-keep-2.was
    (did-fail _ c.keep-3.ensures c.in_err-keep-3.was c.from_residual-in_err-keep-3.ensures.1))

pub returns : goal.returns
unfolding keep_four
returns c = did-then _ c.keep.ensures c.in_ok-keep.was
    (did-then _ c.keep-2.ensures c.in_ok-keep-2.was
    (did-then _ c.keep-3.ensures c.in_ok-keep-3.was c.keep-4.ensures))
