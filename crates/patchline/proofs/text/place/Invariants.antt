use Rattle.std.proofs.Common.{◌≡◌, ◌-◌, ◌≤◌, max, length}
use Rattle.patchline.specs.Text.{is_at, find_from}
use Rattle.optext.specs.First.{first_from}
use Rattle.patchline.proofs.text.place.Given as goal

abbrev pub invariant-loop-i : goal.invariant-loop-i
invariant-loop-i l = (find_from l.c l.t l.from ≡ first_from (is_at l.c l.t) (length l.t - l.i) l.i) × (l.i ≤ max l.from (length l.t))
