use native.Mathlib.Omega.{arith}
use Rattle.hexdigits.proofs.Laws.Laid.{wrote-sets}
use Rattle.stepline.specs.Shown.{tab}
use Rattle.stepline.proofs.put_tab.Goals as goal

pub returns : goal.returns
returns c = wrote-sets tab c.args.out.now (omega arith)
