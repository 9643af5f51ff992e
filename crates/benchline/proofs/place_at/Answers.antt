use Rattle.hexdigits.proofs.Laws.Laid.{at_part}
use Rattle.benchline.proofs.Laws.{place-length}
use native.Mathlib.Omega.{arith}
use Rattle.benchline.proofs.place_at.Goals as goal

pub overflow_add-result : goal.overflow_add-result
overflow_add-result c = omega (arith, c.put_place.ensures.count, place-length c.args.place, c.requires)

pub returns : goal.returns
returns c = at_part _ _ _ _ _ (omega (arith, c.requires)) c.put_place.ensures
