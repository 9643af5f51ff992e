use Rattle.std.proofs.Common.{arith}
use Rattle.hexdigits.proofs.Laws.Laid.{wrote-fits}
use Rattle.listjob.proofs.put_end.Goals as goal

pub returns : goal.returns
returns c = wrote-fits _ _ _ _ (omega (arith, c.requires)) c.put_text.ensures
