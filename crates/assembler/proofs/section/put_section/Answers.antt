use mathlib.Core.Path.{◌≡◌}
use native.Mathlib.Omega.{arith}
use Rattle.assembler.proofs.Sorted.{section-is}
use lib.ListN.{length}
use Rattle.assembler.proofs.section.put_section.Goals as goal

pub put_count-at-requires : goal.put_count-at-requires
put_count-at-requires c = omega (arith, c.requires.0)

pub put_entries-requires : goal.put_entries-requires
put_entries-requires c = let k : length c.put_count-at.new.out ≡ length c.args.out.now = c.put_count-at.auto.out in (omega (arith, c.put_count-at.ensures.count, c.requires.0), c.requires.1, c.requires.2)

pub returns : goal.returns
returns c = section-is _ _ _ _ _ _ _ (omega (arith, c.requires.1, c.requires.2)) c.put_count-at.ensures c.put_entries.ensures
