use native.Mathlib.Omega.{arith}
use Rattle.hexdigits.proofs.Laws.Laid.{at_part}
use Rattle.stepline.proofs.Laws.{column-length}
use Rattle.stepline.proofs.column_at.Goals as goal

pub overflow_add-result : goal.overflow_add-result
overflow_add-result c = omega (arith, c.put_column.ensures.count, column-length c.args.x, c.requires)

pub returns : goal.returns
returns c = at_part _ _ _ _ _ (omega (arith, c.requires)) c.put_column.ensures
