use native.Mathlib.Omega.{arith}
use Rattle.assembler.specs.Section.{entry_bytes}
use Rattle.hexdigits.proofs.Laws.Laid.{wrote-sets}
use lib.ListN.{length-set}
use Rattle.assembler.proofs.section.put_entry.Goals as goal

pub bounds-out-1 : goal.bounds-out-1
bounds-out-1 c = simp length-set (omega arith)

pub bounds-out-2 : goal.bounds-out-2
bounds-out-2 c = simp length-set (omega arith)

pub returns : goal.returns
returns c = wrote-sets (entry_bytes c.args.e) c.args.out.now (omega arith)
