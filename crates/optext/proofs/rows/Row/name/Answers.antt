use Rattle.std.proofs.Common.{◌+◌, ◌-◌, ◌*◌, refl, arith}
use Rattle.hexdigits.specs.Digits.{digits, hex_of, hex4}
use Rattle.optext.specs.Rows.{rows, row_width}
use Rattle.optext.proofs.Laws.Table.{name-part}
use Rattle.optext.proofs.rows.Row.name.Goals as goal

pub returns : goal.returns
unfolding rows digits hex_of hex4
returns c = let k = c.args.self.place in
    name-part k (k * row_width + c.name_len.result - k * row_width) _ c.args.self.inside refl (omega (arith, c.name_len.ensures.0))
