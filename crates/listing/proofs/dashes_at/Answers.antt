use native.Mathlib.Omega.{arith}
use Rattle.hexdigits.proofs.Laws.Laid.{at_part, wrote-fits}
use Rattle.listing.proofs.dashes_at.Goals as goal

pub overflow_add-result : goal.overflow_add-result
overflow_add-result c = omega (arith, (wrote-fits _ _ _ _ (omega (arith, c.requires)) c.put_dashes.ensures).count, c.requires)

pub returns : goal.returns
returns c = at_part _ _ _ _ _ (omega (arith, c.requires)) (wrote-fits _ _ _ _ (omega (arith, c.requires)) c.put_dashes.ensures)
