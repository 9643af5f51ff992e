use native.Mathlib.Omega.{arith}
use Rattle.assembler.specs.Section.{pair}
use Rattle.hexdigits.proofs.Laws.Laid.{wrote-sets}
use Rattle.assembler.proofs.section.put_count.Goals as goal

pub returns : goal.returns
returns c = wrote-sets (pair c.args.n) c.args.out.now (omega arith)
