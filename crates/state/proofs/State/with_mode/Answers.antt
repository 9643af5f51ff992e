use Rattle.state.specs.State.{with_mode}
use mathlib.Core.Path.{refl}
use Rattle.state.proofs.State.with_mode.Goals as goal

pub returns : goal.returns
unfolding with_mode
returns c = refl
