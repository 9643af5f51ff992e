use mathlib.Core.List.{[], ◌∷◌}
use native.Mathlib.Omega.{arith}
use Rattle.hexdigits.proofs.Laws.Laid.{then}
use Rattle.benchline.proofs.Laws.Lengths.{fields-length}
use Rattle.listing.proofs.put_nothing.Goals as goal

pub put_fields-at-requires : goal.put_fields-at-requires
put_fields-at-requires c = (omega (arith, c.requires), omega arith)

pub dashes_at-requires : goal.dashes_at-requires
dashes_at-requires c = omega (arith, c.put_fields-at.ensures.count, fields-length (c.args.a ∷ c.args.w ∷ c.args.x ∷ c.args.y ∷ []) 1, c.put_fields-at.auto.text, c.requires)

pub returns : goal.returns
returns c = then _ _ _ _ _ _ _ c.put_fields-at.ensures c.dashes_at.ensures
