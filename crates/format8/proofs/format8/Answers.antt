use Rattle.board.proofs.Laws.{did-then, did-fail, did-give}
use Rattle.format8.specs.Format8.{element}
use Rattle.format8.proofs.format8.Goals as goal

pub returns-in_err-transfer : goal.returns-in_err-transfer
unfolding element
returns-in_err-transfer c = did-fail _ (rw (c.reg-2.ensures, c.reg.ensures, c.block_destination-j.ensures, c.block_source-i.ensures, c.row_at-row.ensures, c.format8_code.ensures) at c.transfer.ensures) c.in_err-transfer.was c.from_residual.ensures.1

pub returns : goal.returns
unfolding element
returns c = did-then _ (rw (c.reg-2.ensures, c.reg.ensures, c.block_destination-j.ensures, c.block_source-i.ensures, c.row_at-row.ensures, c.format8_code.ensures) at c.transfer.ensures) c.in_ok-transfer.was
    (rw (c.again.ensures, c.registers_moved.ensures, c.block_destination-j.ensures, c.block_source-i.ensures, c.row_at-row.ensures, c.format8_code.ensures) (did-give c.transfer.ensures.board))
