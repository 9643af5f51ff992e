-- What a shift leaves: the registers and the indicators. Formats 6, 7 and 9. low is REG, high is REG+1.
use Rattle.std.specs.Prelude.{ℕ, ◌+◌, ◌-◌, ◌*◌, ◌/◌, ◌%◌, ◌^◌, true, false, cond, ltb, eqb}
use Rattle.wordmath.specs.declared.Flags.{Flags}
use Rattle.wordmath.specs.declared.Done.{Done}
use Rattle.wordmath.specs.declared.Pair.{Pair}
use Rattle.shift.specs.declared.BitsAndC.{BitsAndC}
use Rattle.opcodes.specs.declared.Way.{Way}
use Rattle.opcodes.specs.declared.Way.TheVariants.{RightRotate, LeftRotate, RightArith, LeftArith}
use Rattle.wordmath.specs.Number.{bit, differ}
use Rattle.shift.specs.Shift.{turn, turns}

-- N is bit 7 after a right shift, the sign after a left one
abbrev pub n_bit : ℕ → Way → ℕ
n_bit w RightRotate = 7
n_bit w LeftRotate = w - 1
n_bit w RightArith = 7
n_bit w LeftArith = w - 1

-- the register as it is left, N its bit k, V exclusive or of N and C
abbrev pub leaves : ℕ → BitsAndC → Done
leaves k t = record { value = t.x; flags = record { n = bit k t.x; z = eqb t.x 0; v = differ (bit k t.x) t.c; c = t.c } }

-- SSRR, SSLR, SSRA, SSLA
abbrev pub single_of : Way → ℕ → ℕ → Flags → Done
single_of k n x f = leaves (n_bit 16 k) (turns 16 k n (record { x = x; c = f.c }))

-- ROR, ROL, ASR, ASL and RORB, ROLB, ASRB, ASLB: one bit
abbrev pub one_bit_of : ℕ → Way → ℕ → Flags → Done
one_bit_of w k x f = leaves (n_bit w k) (turn w k (record { x = x; c = f.c }))

-- the preset of format 9
abbrev pub preset : Flags
preset = record { n = true; z = false; v = false; c = true }

-- ASH by the signed byte k: 0 leaves all, 1 to 127 go left, 128 to 255 stand for -128 to -1 and go right
abbrev pub ash_of : ℕ → ℕ → Done
ash_of x k =
    cond (eqb k 0) (record { value = x; flags = preset })
    (cond (ltb k 128)
    (leaves 15 (turns 16 LeftArith k (record { x = x; c = true })))
    (leaves 15 (turns 16 RightArith (256 - k) (record { x = x; c = true }))))

-- the pair of registers as the double shifts leave it: N is bit k of the register r, and Z is set if r is 0
abbrev pub leaves_pair : ℕ → ℕ → BitsAndC → Pair
leaves_pair k r t =
    record {
      low = t.x % 2 ^ 16;
      high = t.x / 2 ^ 16;
      flags = record { n = bit k r; z = eqb r 0; v = differ (bit k r) t.c; c = t.c };
    }

-- the register that N and Z look at: REG after a right shift, REG+1 after a left one
abbrev pub looked : Way → ℕ → ℕ
looked RightRotate x = x % 2 ^ 16
looked LeftRotate x = x / 2 ^ 16
looked RightArith x = x % 2 ^ 16
looked LeftArith x = x / 2 ^ 16

-- SDRR, SDLR, SDRA, SDLA
abbrev pub double_of : Way → ℕ → ℕ → ℕ → Flags → Pair
double_of k n low high f =
    let t = turns 32 k n (record { x = high * 2 ^ 16 + low; c = f.c }) in
    leaves_pair (n_bit 16 k) (looked k t.x) t

-- the pair of registers as ASHC leaves it: N and Z from all 32 bits, V reset
abbrev pub leaves_long : BitsAndC → Pair
leaves_long t =
    record {
      low = t.x % 2 ^ 16;
      high = t.x / 2 ^ 16;
      flags = record { n = bit 31 t.x; z = eqb t.x 0; v = false; c = t.c };
    }

-- ASHC, its count as in ASH
abbrev pub ashc_of : ℕ → ℕ → ℕ → Pair
ashc_of low high k =
    cond (eqb k 0) (record { low = low; high = high; flags = preset })
    (cond (ltb k 128)
    (leaves_long (turns 32 LeftArith k (record { x = high * 2 ^ 16 + low; c = true })))
    (leaves_long (turns 32 RightArith (256 - k) (record { x = high * 2 ^ 16 + low; c = true }))))
