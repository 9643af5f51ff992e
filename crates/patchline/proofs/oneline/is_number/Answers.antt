use Rattle.hexdigits.specs.Digits.{hex4}
use Rattle.optext.specs.Digits.{un_hex4}
use Rattle.patchline.specs.Line.{is_number}
use Rattle.optext.proofs.Laws.Read.{same-pointwise}
use Rattle.patchline.proofs.Laws.{four-digits}
use Rattle.patchline.proofs.oneline.is_number.Goals as goal

pub returns : goal.returns
unfolding is_number
returns c = let q = four-digits _ _ _ c.put_hex4.ensures in
    rw (c.eq.ensures, c.as_slice.ensures, q, c.un_hex4.ensures) (same-pointwise c.args.t.now (hex4 (un_hex4 c.args.t.now)))
