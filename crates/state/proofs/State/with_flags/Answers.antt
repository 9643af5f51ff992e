use Rattle.state.specs.State.{with_flags}
use mathlib.Core.Path.{refl}
use Rattle.state.proofs.State.with_flags.Goals as goal

pub returns : goal.returns
unfolding with_flags
returns c = refl
