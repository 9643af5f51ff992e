use native.Mathlib.Omega.{arith}
use Rattle.hexdigits.proofs.Laws.Laid.{at_part}
use Rattle.stepline.proofs.Laws.{columns-length}
use Rattle.stepline.proofs.columns_at.Goals as goal

pub overflow_add-result : goal.overflow_add-result
overflow_add-result c = omega (arith, c.put_columns.ensures.count, columns-length c.args.values 15, c.requires)

pub returns : goal.returns
returns c = at_part _ _ _ _ _ (omega (arith, c.requires)) c.put_columns.ensures
