use mathlib.Core.Path.{◌≡◌}
use Prim.Native.Nat.{ℕ, ◌+◌, ◌-◌, ◌*◌, ◌≤◌, ◌<◌}
use lib.ListN.{length, get_or}
use Rattle.assembler.specs.Source.{line_count, origin_at, end_at}
use Rattle.assembler.proofs.source.survey.Given as goal

abbrev pub invariant-loop-i : goal.invariant-loop-i
invariant-loop-i l = (l.n ≡ line_count l.source) × (l.o ≡ origin_at l.source l.i) × (l.o ≤ 65535 + 6 * l.i) × (length l.starts ≡ 1025) × (length l.ends ≡ 1024) × ((k : ℕ) → k < l.i → get_or l.starts k 0 ≡ origin_at l.source k) × ((k : ℕ) → k < l.i → get_or l.ends k 0 ≡ end_at l.source k)
