use mathlib.Core.Path.{refl}
use Rattle.state.specs.Registers.{set_reg}
use Rattle.state.specs.State.{with_reg}
use Rattle.state.proofs.State.with_sp.Goals as goal

pub returns : goal.returns
unfolding with_reg set_reg
returns c = refl
