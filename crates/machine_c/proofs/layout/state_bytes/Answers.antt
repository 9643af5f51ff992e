use Rattle.machine.specs.Numbers.{state_page}
use Rattle.machine_c.specs.Layout.{state_bytes}
use Rattle.machine_c.proofs.layout.state_bytes.Goals as goal

pub returns : goal.returns
unfolding state_bytes state_page
returns c = rw (c.low.ensures, c.high.ensures, c.low-2.ensures, c.high-2.ensures, c.low-3.ensures, c.high-3.ensures, c.low-4.ensures, c.high-4.ensures, c.low-5.ensures, c.high-5.ensures, c.low-6.ensures, c.high-6.ensures, c.low-7.ensures, c.high-7.ensures, c.low-8.ensures, c.high-8.ensures, c.low-9.ensures, c.high-9.ensures, c.indicators.ensures, c.digit.ensures.0, c.mode_number.ensures, c.digit-2.ensures.0, c.tells.ensures, c.word_told-address.ensures)
