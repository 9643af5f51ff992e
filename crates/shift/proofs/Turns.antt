-- One turn more.
use Prim.Native.Nat.{ℕ, ◌+◌}
use mathlib.Core.Path.{◌≡◌}
use native.Mathlib.Numerals.{add-one}
use Rattle.shift.specs.declared.BitsAndC.{BitsAndC}
use Rattle.opcodes.specs.declared.Way.{Way}
use Rattle.shift.specs.Shift.{turn, turns}

pub turns_more : (w : ℕ) (k : Way) (n : ℕ) (t : BitsAndC) → turns w k (n + 1) t ≡ turn w k (turns w k n t)
unfolding turns
turns_more w k n t = rw add-one
