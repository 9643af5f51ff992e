-- Formats 6 and 10: the result and the indicators, over the width w. s is the source, d the destination, f the indicators before.
use Rattle.std.specs.Prelude.{ℕ, ◌+◌, ◌-◌, ◌*◌, ◌/◌, ◌%◌, ◌^◌, ◌&&◌, leb, ltb}
use Rattle.std.specs.Int.Bits.{bit_and, bit_or, bit_xor}
use Rattle.wordmath.specs.declared.Flags.{Flags}
use Rattle.wordmath.specs.declared.Done.{Done}
use Rattle.wordmath.specs.Number.{sign, same, differ, complement, done, mov_of}

-- ADD, ADDI
abbrev pub add_of : ℕ → ℕ → ℕ → Done
add_of w s d =
    let r = (s + d) % 2 ^ w in
    done w r (same (sign w s) (sign w d) && differ (sign w d) (sign w r)) (leb (2 ^ w) (s + d))

-- d - s: SUB, SUBI; CMP and CMPB with the operands exchanged
abbrev pub sub_of : ℕ → ℕ → ℕ → Done
sub_of w s d =
    let r = (d + 2 ^ w - s) % 2 ^ w in
    done w r (differ (sign w s) (sign w d) && same (sign w r) (sign w s)) (ltb d s)

-- AND, BIT
abbrev pub and_of : ℕ → ℕ → ℕ → Flags → Done
and_of w s d f = mov_of w (bit_and s d) f

-- BIC, BICI
abbrev pub bic_of : ℕ → ℕ → ℕ → Flags → Done
bic_of w s d f = mov_of w (bit_and (complement w s) d) f

-- BIS, BISB
abbrev pub bis_of : ℕ → ℕ → ℕ → Flags → Done
bis_of w s d f = mov_of w (bit_or s d) f

-- XOR
abbrev pub xor_of : ℕ → ℕ → ℕ → Flags → Done
xor_of w s d f = mov_of w (bit_xor s d) f

-- MOVB to a register: the byte, with its bit 7 replicated through bit 15
abbrev pub extended : ℕ → ℕ
extended b = b / 2 ^ 7 * 0xff00 + b

-- any other op code on the byte of a register: its low byte replaced, its high byte kept
abbrev pub with_low : ℕ → ℕ → ℕ
with_low r b = r / 256 * 256 + b
