-- Numbers of w bits: 16 for a word, 8 for a byte, 32 for a pair of registers. A number of w bits is below 2 ^ w.
use Rattle.std.specs.Prelude.{ℕ, ◌-◌, ◌/◌, ◌%◌, ◌^◌, Bool, true, false, not, ◌==◌}
use Rattle.std.specs.Bool.{beq}
use Rattle.wordmath.specs.declared.Flags.{Flags}
use Rattle.wordmath.specs.declared.Done.{Done}

-- bit k of x
abbrev pub bit : ℕ → ℕ → Bool
bit k x = x / 2 ^ k % 2 == 1

-- the sign: the highest of w bits
abbrev pub sign : ℕ → ℕ → Bool
sign w x = bit (w - 1) x

abbrev pub same : Bool → Bool → Bool
same a b = beq a b

-- exclusive or
abbrev pub differ : Bool → Bool → Bool
differ a b = not (beq a b)

-- 1 for true, 0 for false
abbrev pub digit : Bool → ℕ
digit false = 0
digit true = 1

-- the one's complement
abbrev pub complement : ℕ → ℕ → ℕ
complement w x = 2 ^ w - 1 - x

-- the result r, N its sign, Z set if it is 0, V and C as given
abbrev pub done : ℕ → ℕ → Bool → Bool → Done
done w r v c = record { value = r; flags = record { n = sign w r; z = (r == 0); v = v; c = c } }

-- a result whose V is reset and C unchanged: MOV, MOVB, TST, TSTB, and the logical ones below
abbrev pub mov_of : ℕ → ℕ → Flags → Done
mov_of w r f = done w r false f.c
