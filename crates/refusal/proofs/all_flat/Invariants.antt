use Rattle.std.proofs.Common.{◌≡◌, ◌*◌, ◌&&◌, drop}
use Rattle.refusal.specs.Refusal.{all_of, flat}
use Rattle.refusal.proofs.Laws.Four.{lows}
use Rattle.refusal.proofs.all_flat.Given as goal

abbrev pub invariant-loop-k : goal.invariant-loop-k
invariant-loop-k l = (lows 4 l.seen && lows 4 l.next) && all_of flat (drop (l.k * 4) l.map) ≡ all_of flat l.map
