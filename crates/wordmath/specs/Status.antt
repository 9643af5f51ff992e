-- The processor status word, formed and loaded.
use Rattle.std.specs.Prelude.{ℕ, ◌+◌, ◌*◌, ◌%◌, Bool}
use Rattle.wordmath.specs.declared.Flags.{Flags}
use Rattle.wordmath.specs.Number.{bit, digit}

-- the four jumpers in bits 11 to 8, plus 8000 at power fail, 4000 at a bus error, 1000 if I2 is set, then N 8, Z 4, V 2, C 1
abbrev pub formed : ℕ → Bool → Bool → Bool → Flags → ℕ
formed jumpers power bus i2 f =
    jumpers % 16 * 0x100 + digit power * 0x8000 + digit bus * 0x4000 + digit i2 * 0x1000 + digit f.n * 8 + digit f.z * 4 + digit f.v * 2 + digit f.c

-- the indicators from bits 3 to 0
abbrev pub flags_of : ℕ → Flags
flags_of ps = record { n = bit 3 ps; z = bit 2 ps; v = bit 1 ps; c = bit 0 ps }

-- I2 from bit 12
abbrev pub enable_of : ℕ → Bool
enable_of ps = bit 12 ps
