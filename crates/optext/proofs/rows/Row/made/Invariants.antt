use Rattle.std.proofs.Common.{◌≡◌, ◌-◌}
use Rattle.optext.specs.Line.{fits_row}
use Rattle.optext.specs.First.{first_from}
use Rattle.optext.specs.Rows.{word_row}
use Rattle.optext.proofs.rows.Row.made.Given as goal

abbrev pub invariant-loop-place : goal.invariant-loop-place
invariant-loop-place l = first_from (fits_row l.w) word_row 0 ≡ first_from (fits_row l.w) (word_row - l.place) l.place
