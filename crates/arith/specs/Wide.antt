-- MUL and DIV. low is REG, high is REG+1.
use Rattle.std.specs.Prelude.{ℕ, ◌+◌, ◌*◌, ◌/◌, ◌%◌, ◌^◌, true, false, cond, leb, eqb}
use Rattle.wordmath.specs.declared.Pair.{Pair}
use Rattle.wordmath.specs.Number.{bit}

-- MUL: REG+1:REG <- REG * (DST); C stays the preset 1
abbrev pub mul_of : ℕ → ℕ → Pair
mul_of a b =
    let p = a * b in
    record { low = p % 2 ^ 16; high = p / 2 ^ 16; flags = record { n = bit 31 p; z = eqb p 0; v = false; c = true } }

-- no divide: V is set, and C if the divisor is 0
abbrev pub undivided : ℕ → ℕ → ℕ → Pair
undivided low high d = record { low = low; high = high; flags = record { n = false; z = false; v = true; c = eqb d 0 } }

-- DIV: REG <- REG+1:REG / (DST), REG+1 <- the remainder; C stays the preset 1
abbrev pub div_of : ℕ → ℕ → ℕ → Pair
div_of low high d =
    let q = (high * 2 ^ 16 + low) / d in
    cond (leb d high) (undivided low high d)
    (record { low = q; high = (high * 2 ^ 16 + low) % d; flags = record { n = bit 15 q; z = eqb q 0; v = false; c = true } })
