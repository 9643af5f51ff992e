use Rattle.hexdigits.proofs.Laws.Laid.{at_part}
use Rattle.benchline.proofs.Laws.{mode-length}
use native.Mathlib.Omega.{arith}
use Rattle.benchline.proofs.mode_at.Goals as goal

pub overflow_add-result : goal.overflow_add-result
overflow_add-result c = omega (arith, c.put_mode.ensures.count, mode-length c.args.mode, c.requires)

pub returns : goal.returns
returns c = at_part _ _ _ _ _ (omega (arith, c.requires)) c.put_mode.ensures
