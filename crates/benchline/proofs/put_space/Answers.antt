use Rattle.std.proofs.Common.{arith}
use Rattle.hexdigits.proofs.Laws.Laid.{wrote-fits}
use Rattle.benchline.proofs.put_space.Goals as goal

pub returns : goal.returns
returns c = wrote-fits _ _ _ _ (omega (arith, c.requires)) c.put_text.ensures
