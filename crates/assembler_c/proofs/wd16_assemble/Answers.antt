use Rattle.std.proofs.Common.{refl}
use Rattle.answer.proofs.Laws.{room}
use Rattle.refusal.proofs.Laws.Answer.{number-some}
use Rattle.assembler_c.proofs.Laws.{assemble-bad, assemble-told}
use Rattle.assembler_c.proofs.wd16_assemble.Goals as goal

pub returns-in-Err : goal.returns-in-Err
returns-in-Err c = rw c.from.ensures (assemble-bad _ _ _ _ c.in-Err.ensures (number-some c.in-Err.why))

pub tell-requires : goal.tell-requires
tell-requires c = room _ _ c.in_default.ensures refl

pub returns : goal.returns
returns c = assemble-told _ _ _ _ c.in_default.ensures refl _ _ c.assemble.ensures (c.tell.ensures _)
