use Rattle.std.proofs.Common.{refl, ◌∙◌}
use Rattle.optext.proofs.Laws.Forms.{takes-le}
use Rattle.optext.proofs.FirstWord.second_takes.Goals as goal

pub returns : goal.returns
returns c = (c.takes.ensures ∙ rw (c.second.ensures, c.args.self.its_row) refl, rw c.takes.ensures (takes-le c.second.result c.args.self.word))
