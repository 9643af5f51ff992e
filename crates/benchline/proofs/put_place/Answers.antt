use Rattle.benchline.specs.Line.{place_text}
use Rattle.hexdigits.specs.Digits.{hex4}
use Rattle.hexdigits.proofs.Laws.Laid.{wrote-fits}
use native.Mathlib.Omega.{arith}
use Rattle.benchline.proofs.put_place.Goals as goal

pub returns-in-Some : goal.returns-in-Some
unfolding place_text hex4
returns-in-Some c = rw c.in-Some.is (wrote-fits _ _ _ _ (omega (arith, c.requires)) c.put_hex4.ensures)

pub returns-in-None : goal.returns-in-None
unfolding place_text
returns-in-None c = rw c.in-None.is (wrote-fits _ _ _ _ (omega (arith, c.requires)) c.put_dashes.ensures)
