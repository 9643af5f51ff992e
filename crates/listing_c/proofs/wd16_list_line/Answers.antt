use Rattle.std.proofs.Common.{refl}
use Rattle.answer.proofs.Laws.{room}
use Rattle.refusal.proofs.Laws.Answer.{number-some}
use Rattle.listing_c.proofs.Laws.{line-told, list-bad, goes_on, stopped}
use Rattle.listing_c.proofs.wd16_list_line.Goals as goal

pub returns-in-Err : goal.returns-in-Err
returns-in-Err c = rw c.from.ensures (list-bad _ _ _ _ _ _ _ c.in-Err.ensures (number-some c.in-Err.why))

pub put_line-requires : goal.put_line-requires
put_line-requires c = (room _ _ c.in_default.ensures refl, line-told _ _ _ _ _ _ _ _ c.in-Ok.is c.list_line.ensures)

pub returns-in-Ok : goal.returns-in-Ok
returns-in-Ok c = goes_on _ _ _ _ _ _ _ c.in_default.ensures refl _ _ c.list_line.ensures _ _ c.in-Ok.is c.put_line.ensures

pub returns-in-Err-list_line : goal.returns-in-Err-list_line
returns-in-Err-list_line c = stopped _ _ _ _ _ _ _ c.in_default.ensures refl _ _ c.list_line.ensures _ _ c.in-Err-list_line.is c.from-in-Err-list_line.ensures
