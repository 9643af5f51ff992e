use Rattle.machine.specs.Back.{state_of}
use Rattle.machine_c.specs.Layout.{page_from}
use Rattle.machine_c.proofs.layout.state_from.Goals as goal

pub returns : goal.returns
unfolding state_of page_from
returns c = rw (c.with_mark.ensures, c.byte_at-4.ensures, c.with_mode.ensures, c.mode_of.ensures, c.byte_at-3.ensures, c.with_i2.ensures, c.byte_at-2.ensures, c.with_flags.ensures, c.flags_of.ensures, c.byte_at.ensures, c.regs_from.ensures)
