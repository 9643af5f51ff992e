use Rattle.machine_c.specs.Layout.{settings_from}
use Rattle.machine_c.proofs.layout.settings_from.Goals as goal

pub returns : goal.returns
unfolding settings_from
returns c = rw (c.byte_at.ensures, c.byte_at-2.ensures, c.byte_at-3.ensures, c.byte_at-4.ensures)
