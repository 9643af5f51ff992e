use Rattle.endline.proofs.Laws.{end_is}
use Rattle.endline.proofs.write_end_on.Goals as goal

pub returns : goal.returns
returns c = end_is c.args.ran _ _ _ _ _ _ _ _ _ c.write_line.ensures c.registers-regs.ensures c.hear.ensures c.ps-ps.ensures c.mode_number-number.ensures c.place-at.ensures c.address-told.ensures
