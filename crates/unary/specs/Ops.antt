-- Format 7: the result and the indicators, over the width w. d is the destination, f the indicators before.
use Rattle.std.specs.Prelude.{ℕ, ◌+◌, ◌-◌, ◌*◌, ◌/◌, ◌%◌, ◌^◌, Bool, true, false, not, ◌||◌, leb, ltb, eqb}
use Rattle.wordmath.specs.declared.Flags.{Flags}
use Rattle.wordmath.specs.declared.Done.{Done}
use Rattle.wordmath.specs.Number.{bit, sign, differ, digit, complement, done, mov_of}

-- SET, SETB
abbrev pub set_of : ℕ → Flags → Done
set_of w f = mov_of w (2 ^ w - 1) f

-- CLR, CLRB: C as given
abbrev pub clr_of : Bool → Done
clr_of c = record { value = 0; flags = record { n = false; z = true; v = false; c = c } }

-- COM, COMB
abbrev pub com_of : ℕ → ℕ → Done
com_of w d = done w (complement w d) false true

-- NEG, NEGB: V if the result is 8000 (80), C unless it is 0
abbrev pub neg_of : ℕ → ℕ → Done
neg_of w d =
    let r = (2 ^ w - d) % 2 ^ w in
    done w r (eqb r (2 ^ (w - 1))) (not (eqb r 0))

-- INC, INCB: V if the result is 8000 (80)
abbrev pub inc_of : ℕ → ℕ → Done
inc_of w d =
    let r = (d + 1) % 2 ^ w in
    done w r (eqb r (2 ^ (w - 1))) (leb (2 ^ w) (d + 1))

-- DEC, DECB: V if the result is 7FFF (7F)
abbrev pub dec_of : ℕ → ℕ → Done
dec_of w d =
    let r = (d + 2 ^ w - 1) % 2 ^ w in
    done w r (eqb r (2 ^ (w - 1) - 1)) (ltb d 1)

-- IW2
abbrev pub iw2_of : ℕ → Done
iw2_of d =
    let r = (d + 2) % 2 ^ 16 in
    done 16 r (eqb r 0x8000 || eqb r 0x8001) (leb (2 ^ 16) (d + 2))

-- SXT: N replicated, the indicators unchanged
abbrev pub sxt_of : Flags → Done
sxt_of f = record { value = digit f.n * 0xffff; flags = f }

-- the result r of ADC and SBC: V is N exclusive or C
abbrev pub carried : ℕ → Bool → Done
carried r c = done 16 r (differ (sign 16 r) c) c

-- ADC
abbrev pub adc_of : ℕ → Flags → Done
adc_of d f = carried ((d + digit f.c) % 2 ^ 16) (leb (2 ^ 16) (d + digit f.c))

-- SBC
abbrev pub sbc_of : ℕ → Flags → Done
sbc_of d f = carried ((d + 2 ^ 16 - digit f.c) % 2 ^ 16) (ltb d (digit f.c))

-- SWAB: the bytes exchanged, N and Z from the low byte
abbrev pub swab_of : ℕ → Flags → Done
swab_of d f =
    let r = d % 256 * 256 + d / 256 in
    record { value = r; flags = record { n = bit 7 r; z = eqb (r % 256) 0; v = false; c = f.c } }

-- SWAD: the digits exchanged, V as N, C reset
abbrev pub swad_of : ℕ → Done
swad_of d =
    let r = d % 16 * 16 + d / 16 in
    done 8 r (bit 7 r) false
