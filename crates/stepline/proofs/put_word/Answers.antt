use native.Mathlib.Omega.{arith}
use Prim.Native.Nat.{◌*◌, ◌/◌}
use Rattle.hexdigits.proofs.Laws.Laid.{then}
use Rattle.stepline.proofs.Laws.{column-length}
use Rattle.stepline.proofs.put_word.Goals as goal

pub column_at-requires : goal.column_at-requires
column_at-requires c = omega (arith, c.put_column-n.auto.out, c.put_column-n.ensures.count, column-length (c.args.a / 2 * 2), c.requires)

pub returns : goal.returns
returns c = rw (← c.word_at.ensures) (then _ _ _ _ _ _ _ c.put_column-n.ensures c.column_at.ensures)
