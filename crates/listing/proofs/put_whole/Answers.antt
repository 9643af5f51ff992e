use mathlib.Core.Path.{sym}
use mathlib.Core.List.{[], ◌∷◌}
use Prim.Native.Nat.{◌+◌}
use native.Mathlib.Omega.{arith}
use lib.Seq.{length-take-le}
use Rattle.hexdigits.proofs.Laws.Laid.{then}
use Rattle.benchline.proofs.Laws.Lengths.{fields-length}
use Rattle.listing.proofs.Laws.{whole-count}
use Rattle.listing.proofs.put_whole.Goals as goal

pub overflow_add-n : goal.overflow_add-n
overflow_add-n c = omega (arith, c.requires.2)

pub put_fields-at-requires : goal.put_fields-at-requires
put_fields-at-requires c = (omega (arith, c.requires.0), omega (arith, c.requires.2))

pub slice_bounds-words-end : goal.slice_bounds-words-end
slice_bounds-words-end c = omega (arith, c.requires.2)

pub slice_bounds-op_at-end : goal.slice_bounds-op_at-end
slice_bounds-op_at-end c = sym (length-take-le c.args.n (c.args.w ∷ c.args.x ∷ c.args.y ∷ []) (omega (arith, c.requires.2)))

pub op_at-requires : goal.op_at-requires
op_at-requires c = (omega (arith, c.put_fields-at.ensures.count, fields-length (c.args.a ∷ c.args.w ∷ c.args.x ∷ c.args.y ∷ []) (c.args.n + 1), c.put_fields-at.auto.text, c.requires.0, c.requires.2), whole-count c.args.w c.args.x c.args.y c.args.n c.requires.1 c.requires.2)

pub returns : goal.returns
returns c = then _ _ _ _ _ _ _ c.put_fields-at.ensures c.op_at.ensures
