use Rattle.state.specs.State.{with_i2}
use mathlib.Core.Path.{refl}
use Rattle.state.proofs.State.with_i2.Goals as goal

pub returns : goal.returns
unfolding with_i2
returns c = refl
