use mathlib.Core.Path.{refl}
use Rattle.board.specs.Work.{fitted}
use Rattle.board.proofs.fitted.Goals as goal

pub returns : goal.returns
unfolding fitted
returns c = refl
