use Rattle.std.proofs.Common.{◌∙◌}
use Rattle.optext.proofs.Laws.Columns.{space-any}
use Rattle.optext.proofs.has_space.Goals as goal

pub returns : goal.returns
returns c = c.contains.ensures.value ∙ space-any c.args.t.now
