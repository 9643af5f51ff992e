use Rattle.machine_c.specs.Runs.{stop_bytes}
use Rattle.machine_c.proofs.runs.stop_bytes.Goals as goal

pub returns : goal.returns
unfolding stop_bytes
returns c = rw (c.low.ensures, c.high.ensures, c.low-2.ensures, c.high-2.ensures, c.low-3.ensures, c.high-3.ensures, c.low-4.ensures, c.high-4.ensures, c.place_of-place.ensures, c.place_told-address.ensures)
