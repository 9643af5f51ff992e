-- Addresses: all sums are taken modulo 65,536.
use Rattle.std.specs.Prelude.{ℕ, ◌+◌, ◌-◌, ◌%◌}

abbrev pub plus : ℕ → ℕ → ℕ
plus a b = (a + b) % 65536

abbrev pub minus : ℕ → ℕ → ℕ
minus a b = (a + 65536 - b) % 65536

abbrev pub twice : ℕ → ℕ
twice a = plus a a
