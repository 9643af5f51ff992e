use Rattle.std.proofs.Common.{arith}
use Rattle.hexdigits.proofs.Laws.Laid.{wrote-fits}
use Rattle.benchline.specs.Line.{name}
use Rattle.benchline.proofs.put_name.Goals as goal

pub returns : goal.returns
unfolding name
returns c = wrote-fits _ _ _ _ (omega (arith, c.requires)) c.put_text.ensures
