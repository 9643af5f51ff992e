use native.Mathlib.Omega.{arith}
use Rattle.patchline.proofs.Laws.Joined.{then_at}
use Rattle.assembler.specs.Section.{pair}
use Rattle.assembler.proofs.labelling.line_label_at.Goals as goal

pub returns : goal.returns
returns c = then_at c.args.at _ _ (pair c.args.n) (pair c.args.h) _ _ _ (omega (arith, c.requires)) c.pair_at-next.ensures c.pair_at.ensures
