-- The lines of a text: each ends before its newline, or where the text ends.
use Rattle.std.specs.Prelude.{ℕ, ◌+◌, cond, List, [], ◌∷◌, eqb, drop}

-- how many bytes stand before the first newline
unfoldable pub line_length : List ℕ → ℕ
line_length [] = 0
line_length (b ∷ t) = cond (eqb b 10) 0 (1 + line_length t)

-- where the line ends that begins at a place
abbrev pub line_ends_at : List ℕ → ℕ → ℕ
line_ends_at t from = from + line_length (drop from t)
