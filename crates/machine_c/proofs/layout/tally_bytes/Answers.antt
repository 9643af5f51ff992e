use Rattle.machine_c.specs.Layout.{tally_bytes}
use Rattle.machine_c.proofs.layout.tally_bytes.Goals as goal

pub returns : goal.returns
unfolding tally_bytes
returns c = rw (c.low.ensures, c.high.ensures, c.low-2.ensures, c.high-2.ensures, c.low-3.ensures, c.high-3.ensures, c.place_of-place.ensures, c.place_told-address.ensures)
