use Rattle.state.specs.State.{with_mark}
use mathlib.Core.Path.{refl}
use Rattle.state.proofs.State.with_mark.Goals as goal

pub returns : goal.returns
unfolding with_mark
returns c = refl
