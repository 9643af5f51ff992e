-- Digits read back.
use Rattle.std.specs.Prelude.{ℕ, ◌+◌, ◌-◌, ◌*◌, cond, List, nat_lt, slice_index}

-- the number of a digit, or 0
unfoldable pub un_hex : ℕ → ℕ
un_hex c = cond (nat_lt c 48) 0 (cond (nat_lt c 58) (c - 48) (cond (nat_lt c 65) 0 (cond (nat_lt c 71) (c - 55) 0)))

unfoldable pub un_hex4 : List ℕ → ℕ
un_hex4 t = un_hex (slice_index t 0) * 4096 + un_hex (slice_index t 1) * 256 + un_hex (slice_index t 2) * 16 + un_hex (slice_index t 3)

unfoldable pub un_hex2 : List ℕ → ℕ
un_hex2 t = un_hex (slice_index t 0) * 16 + un_hex (slice_index t 1)
