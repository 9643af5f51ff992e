use Rattle.machine_c.specs.Layout.{refused_up}
use Rattle.machine_c.proofs.layout.refused_up.Goals as goal

pub returns : goal.returns
unfolding refused_up
returns c = rw (c.not_state.ensures, c.refused_settings.ensures)
