-- Twice a signed byte, as the code reckons it.
use Prim.Native.Nat.{ℕ, ◌+◌, ◌*◌, ◌/◌, ◌%◌, ◌^◌, ◌<◌, ◌≤◌}
use mathlib.Core.Path.{◌≡◌}
use native.Mathlib.Omega.{arith}
use Rattle.formats5to6.specs.Format5.{displacement}

pub ahead : (op : ℕ) → op % 256 < 128 → op % 256 * 2 ≡ displacement op
ahead op h = omega arith

pub behind : (op : ℕ) → 128 ≤ op % 256 → op % 256 * 2 + 65024 ≡ displacement op
behind op h = let one : op % 256 / 2 ^ 7 ≡ 1 = omega arith in rw one (omega (arith, h))
