use Rattle.std.proofs.Common.{refl, ap, ◌∙◌}
use Rattle.hexdigits.specs.Digits.{digits, hex_of, hex4}
use Rattle.optext.specs.Rows.{rows}
use Rattle.optext.specs.Digits.{un_hex4}
use Rattle.optext.proofs.Laws.Back.{base-part}
use Rattle.optext.proofs.rows.Row.base.Goals as goal

pub returns : goal.returns
unfolding rows digits hex_of hex4
returns c = c.un_hex4.ensures ∙ ap un_hex4 c.after.ensures ∙ base-part c.args.self.place _ c.args.self.inside refl
