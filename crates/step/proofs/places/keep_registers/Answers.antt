use Rattle.board.proofs.Laws.{did-then, did-fail}
use Rattle.step.specs.Places.{keep_registers}
use Rattle.step.proofs.places.keep_registers.Goals as goal

pub returns-in_err-keep_four : goal.returns-in_err-keep_four
unfolding keep_registers
returns-in_err-keep_four c = did-fail _ c.keep_four.ensures c.in_err-keep_four.was c.from_residual.ensures.1

pub returns : goal.returns
unfolding keep_registers
returns c = did-then _ c.keep_four.ensures c.in_ok-keep_four.was c.keep_four-2.ensures
