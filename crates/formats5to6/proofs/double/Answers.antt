use Rattle.formats5to6.specs.Format6.{double}
use Rattle.formats5to6.proofs.double.Goals as goal

pub returns : goal.returns
unfolding double
returns c = rw (c.with_pair.ensures, c.double-pair.ensures, c.reg-2.ensures, c.next.ensures, c.reg.ensures, c.way_at-way.ensures, c.format6_code.ensures, c.count-n.ensures, c.register-k.ensures)
