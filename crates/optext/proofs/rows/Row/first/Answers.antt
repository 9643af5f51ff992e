use Rattle.std.proofs.Common.{ap, ◌∙◌}
use Rattle.optext.specs.Rows.{first_of, kind_as}
use Rattle.hexdigits.specs.Digits.{hex4}
use Rattle.optext.proofs.Laws.Table.{kind-back}
use Rattle.optext.proofs.rows.Row.first.Goals as goal

pub returns : goal.returns
unfolding hex4
returns c = c.kind_of.ensures ∙ ap kind_as c.letter.ensures ∙ kind-back (first_of c.args.self.place)
