use Rattle.formats5to6.specs.Format6.{immediate}
use Rattle.formats5to6.proofs.immediate.Goals as goal

pub returns : goal.returns
unfolding immediate
returns c = rw (c.with_done.ensures, c.immediate-done.ensures, c.reg.ensures, c.immediate_at-kind.ensures, c.format6_code.ensures, c.count-n.ensures, c.register-k.ensures)
