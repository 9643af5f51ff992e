use Rattle.trace.specs.Trace.{entry_of}
use Rattle.trace.proofs.entry_of.Goals as goal

pub returns : goal.returns
unfolding entry_of
returns c = rw (c.mode_number-number.ensures, c.ps-ps.ensures, c.hear.ensures, c.bench_board.ensures)
