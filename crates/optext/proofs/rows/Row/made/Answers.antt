use Rattle.std.proofs.Common.{◌≡◌, sym, refl, ◌∙◌, arith}
use Rattle.optext.specs.Line.{fits_row}
use Rattle.optext.proofs.Laws.Choose.{first_found, first_next, first-end}
use Rattle.optext.specs.Rows.{word_row}
use Rattle.optext.proofs.rows.Row.made.Goals as goal

pub loop-place-init : goal.loop-place-init
loop-place-init c = refl

pub returns-then-fits : goal.returns-then-fits
returns-then-fits c = let l = c.loop-place in
    first_found (fits_row c.args.w) word_row l.place _ l.invariant c.loop-place-test.true (sym c.fits.ensures ∙ c.if-fits.true)

pub loop-place-preserved : goal.loop-place-preserved
loop-place-preserved c = let l = c.loop-place in
    first_next (fits_row c.args.w) word_row l.place _ l.invariant c.loop-place-test.true (sym c.fits.ensures ∙ c.if-fits.false)

pub returns : goal.returns
returns c = let l = c.loop-place in
    let e : l.place ≡ word_row = omega arith in
    sym e ∙ first-end (fits_row c.args.w) word_row l.place _ l.invariant (omega arith)
