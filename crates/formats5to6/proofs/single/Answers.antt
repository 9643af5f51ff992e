use Rattle.formats5to6.specs.Format6.{single}
use Rattle.formats5to6.proofs.single.Goals as goal

pub returns : goal.returns
unfolding single
returns c = rw (c.with_done.ensures, c.single-done.ensures, c.reg.ensures, c.way_at-way.ensures, c.format6_code.ensures, c.count-n.ensures, c.register-k.ensures)
