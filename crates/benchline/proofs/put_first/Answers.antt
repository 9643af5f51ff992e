use Rattle.hexdigits.proofs.Laws.Laid.{then}
use Rattle.benchline.proofs.Laws.{place-length}
use Rattle.benchline.specs.Line.{first_text}
use native.Mathlib.Omega.{arith}
use Rattle.benchline.proofs.put_first.Goals as goal

pub space_at-after-requires : goal.space_at-after-requires
space_at-after-requires c = omega (arith, c.put_place-n.ensures.count, place-length c.args.place, c.requires)

pub place_at-requires : goal.place_at-requires
place_at-requires c = omega (arith, c.put_place-n.ensures.count, place-length c.args.place, c.space_at-after.ensures.count, c.requires)

pub returns : goal.returns
unfolding first_text
returns c = then _ _ _ _ _ _ _ (then _ _ _ _ _ _ _ c.put_place-n.ensures c.space_at-after.ensures) c.place_at.ensures
