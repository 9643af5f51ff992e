-- Shifts, over the width w: one bit, and that as many times as the count says.
use Rattle.std.specs.Prelude.{ℕ, zero, suc, ◌+◌, ◌-◌, ◌*◌, ◌/◌, ◌%◌, ◌^◌, Bool, false, eqb}
use Rattle.shift.specs.declared.BitsAndC.{BitsAndC}
use Rattle.opcodes.specs.declared.Way.{Way}
use Rattle.opcodes.specs.declared.Way.TheVariants.{RightRotate, LeftRotate, RightArith, LeftArith}
use Rattle.wordmath.specs.Number.{sign, digit}

-- x one bit to the right, with the bit b coming in at the top; bit 0 goes to C
abbrev pub right_one : ℕ → Bool → ℕ → BitsAndC
right_one w b x = record { x = x / 2 + digit b * 2 ^ (w - 1); c = eqb (x % 2) 1 }

-- x one bit to the left, with the bit b coming in as bit 0; the highest bit goes to C
abbrev pub left_one : ℕ → Bool → ℕ → BitsAndC
left_one w b x = record { x = x % 2 ^ (w - 1) * 2 + digit b; c = sign w x }

-- a rotate shifts the C flag in, a right arithmetic shift the sign, a left one 0
abbrev pub turn : ℕ → Way → BitsAndC → BitsAndC
turn w RightRotate t = right_one w t.c t.x
turn w LeftRotate t = left_one w t.c t.x
turn w RightArith t = right_one w (sign w t.x) t.x
turn w LeftArith t = left_one w false t.x

-- n turns, one after the other
unfoldable pub turns : ℕ → Way → ℕ → BitsAndC → BitsAndC
turns w k zero t = t
turns w k (suc n) t = turn w k (turns w k n t)
