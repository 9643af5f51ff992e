-- The code's own words: the plate's rows 00 to 0F and 80 to 8F, by the lower half of the high byte.
use Rattle.std.specs.Prelude.{ℕ, cond, eqb, ltb}

abbrev pub row0 : ℕ → ℕ
row0 k = cond (eqb k 0) 1 (cond (ltb k 8) 5 (cond (ltb k 10) 6 (cond (ltb k 14) 7 8)))

abbrev pub row8 : ℕ → ℕ
row8 k = cond (ltb k 8) 5 (cond (ltb k 10) 6 (cond (ltb k 14) 7 6))
