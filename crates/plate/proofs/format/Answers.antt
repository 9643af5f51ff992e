use Prim.Native.Nat.{◌/◌}
use borrow.Author.Rules.{rules}
use Rattle.plate.specs.Plate.{format_of}
use Rattle.plate.proofs.Laws.Plate.{plate_entries, plate, plate-right}
use Rattle.plate.proofs.format.Goals as goal

pub returns : goal.returns
unfolding plate plate_entries format_of
returns c = plate-right (c.args.op / 256) (search rules)
