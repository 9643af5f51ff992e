use Rattle.machine.specs.Back.{from_registers}
use Rattle.machine_c.proofs.layout.regs_from.Goals as goal

pub returns : goal.returns
unfolding from_registers
returns c = rw (c.with_reg-8.ensures, c.word_at-8.ensures, c.with_reg-7.ensures, c.word_at-7.ensures, c.with_reg-6.ensures, c.word_at-6.ensures, c.with_reg-5.ensures, c.word_at-5.ensures, c.with_reg-4.ensures, c.word_at-4.ensures, c.with_reg-3.ensures, c.word_at-3.ensures, c.with_reg-2.ensures, c.word_at-2.ensures, c.with_reg.ensures, c.word_at.ensures, c.cleared.ensures)
