use mathlib.Core.Path.{refl}
use Rattle.board.specs.Work.{writable}
use Rattle.board.proofs.writable.Goals as goal

pub returns : goal.returns
unfolding writable
returns c = refl
