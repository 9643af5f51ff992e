use mathlib.Core.Path.{sym}
use lib.ListN.{get_or-eq_default}
use Rattle.hexdigits.specs.Digits.{digits, hex_of}
use borrow.Author.Rules.{rules}
use Rattle.hexdigits.proofs.hex.Goals as goal

pub returns-then-d-lt16 : goal.returns-then-d-lt16
unfolding hex_of digits
returns-then-d-lt16 c = search rules

pub returns : goal.returns
unfolding hex_of digits
returns c = sym (get_or-eq_default digits 0 c.if-d-lt16.false)
