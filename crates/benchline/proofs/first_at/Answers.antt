use Rattle.hexdigits.proofs.Laws.Laid.{at_part}
use Rattle.benchline.proofs.Laws.{first-length}
use native.Mathlib.Omega.{arith}
use Rattle.benchline.proofs.first_at.Goals as goal

pub overflow_add-result : goal.overflow_add-result
overflow_add-result c = omega (arith, c.put_first.ensures.count, first-length c.args.place c.args.address, c.requires)

pub returns : goal.returns
returns c = at_part _ _ _ _ _ (omega (arith, c.requires)) c.put_first.ensures
