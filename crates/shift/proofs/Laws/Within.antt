-- A number that is shifted stays within its w bits.
use Prim.Native.Nat.{ℕ, zero, suc, ◌-◌, ◌*◌, ◌^◌, ◌<◌}
use mathlib.Core.Bool.{Bool, true, false}
use mathlib.Core.Path.{◌≡◌, ap}
use native.Mathlib.Nat.{mod-lt, pow-suc}
use native.Mathlib.Omega.{arith}
use lib.Pow.{pow_pos}
use Rattle.shift.specs.declared.BitsAndC.{BitsAndC}
use Rattle.opcodes.specs.declared.Way.{Way}
use Rattle.opcodes.specs.declared.Way.TheVariants.{RightRotate, LeftRotate, RightArith, LeftArith}
use Rattle.wordmath.specs.Number.{sign}
use Rattle.shift.specs.Shift.{right_one, left_one, turn, turns}

-- 2 ^ w is twice what the highest of w bits counts
pub twice : (w : ℕ) → zero < w → 2 ^ w ≡ 2 ^ (w - 1) * 2
twice zero h = omega arith
twice (suc w) h = rw pow-suc (ap (λ (n : ℕ). 2 ^ n * 2) (omega arith))

right_lt : (w : ℕ) (b : Bool) (x : ℕ) → zero < w → x < 2 ^ w → (right_one w b x).x < 2 ^ w
right_lt w true x p h = omega (arith, twice w p)
right_lt w false x p h = omega (arith, twice w p)

left_lt : (w : ℕ) (b : Bool) (x : ℕ) → zero < w → (left_one w b x).x < 2 ^ w
left_lt w true x p = omega (arith, twice w p, mod-lt x (pow_pos (w - 1)))
left_lt w false x p = omega (arith, twice w p, mod-lt x (pow_pos (w - 1)))

pub turn-lt : (w : ℕ) (k : Way) (t : BitsAndC) → zero < w → t.x < 2 ^ w → (turn w k t).x < 2 ^ w
turn-lt w RightRotate t p h = right_lt w t.c t.x p h
turn-lt w LeftRotate t p h = left_lt w t.c t.x p
turn-lt w RightArith t p h = right_lt w (sign w t.x) t.x p h
turn-lt w LeftArith t p h = left_lt w false t.x p

pub turns-lt : (w : ℕ) (k : Way) (n : ℕ) (t : BitsAndC) → zero < w → t.x < 2 ^ w → (turns w k n t).x < 2 ^ w
unfolding turns
turns-lt w k zero t p h = h
turns-lt w k (suc n) t p h = turn-lt w k (turns w k n t) p (turns-lt w k n t p h)
