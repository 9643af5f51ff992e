use Rattle.state.specs.State.{ps_of}
use Rattle.state.proofs.State.ps.Goals as goal

pub returns : goal.returns
unfolding ps_of
returns c = rw (c.form.ensures, c.jumpers.ensures)
