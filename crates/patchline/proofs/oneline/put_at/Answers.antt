use Rattle.std.proofs.Common.{arith}
use Rattle.hexdigits.proofs.Laws.Laid.{at_part, part_room, wrote-fits}
use Rattle.patchline.proofs.oneline.put_at.Goals as goal

pub overflow_add-result : goal.overflow_add-result
overflow_add-result c = let a = c.args in
    omega (arith, (wrote-fits _ _ _ _ (part_room a.at _ a.out.now c.requires) c.put_text.ensures).count)

pub returns : goal.returns
returns c = let a = c.args in
    at_part a.at _ a.s.now a.out.now _ (omega (arith, c.requires)) (wrote-fits _ _ _ _ (part_room a.at _ a.out.now c.requires) c.put_text.ensures)
