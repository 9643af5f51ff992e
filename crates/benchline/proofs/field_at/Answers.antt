use Rattle.hexdigits.proofs.Laws.Laid.{at_part, wrote-fits}
use Rattle.benchline.proofs.Laws.Lengths.{field-length}
use native.Mathlib.Omega.{arith}
use lib.ListN.{length-drop}
use Rattle.benchline.proofs.field_at.Goals as goal

pub overflow_add-result : goal.overflow_add-result
overflow_add-result c = omega (arith, (wrote-fits _ _ _ _ (simp (length-drop, field-length) (omega (arith, c.requires))) c.put_field.ensures).count, field-length c.args.x, c.requires)

pub returns : goal.returns
returns c = at_part _ _ _ _ _ (omega (arith, c.requires)) (wrote-fits _ _ _ _ (simp (length-drop, field-length) (omega (arith, c.requires))) c.put_field.ensures)
