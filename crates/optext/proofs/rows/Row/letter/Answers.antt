use Rattle.hexdigits.specs.Digits.{digits, hex_of, hex4}
use Rattle.optext.specs.Rows.{rows}
use Rattle.optext.proofs.Laws.Table.{table_at}
use Rattle.optext.proofs.rows.Row.letter.Goals as goal

pub returns : goal.returns
unfolding rows digits hex_of hex4
returns c = table_at c.args.self.place c.args.i c.args.self.inside c.requires
