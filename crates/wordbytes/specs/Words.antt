-- Bytes and words of lent bytes. A word has its low byte first.
use Rattle.std.specs.Prelude.{ℕ, ◌+◌, ◌*◌, ◌/◌, ◌%◌, List, [], ◌∷◌, get_or}

-- 0 past the end
abbrev pub byte_at : List ℕ → ℕ → ℕ
byte_at b at = get_or b at 0

abbrev pub word_at : List ℕ → ℕ → ℕ
word_at b at = byte_at b at + byte_at b (at + 1) * 256

-- the two bytes of a word
abbrev pub low : ℕ → ℕ
low v = v % 256

abbrev pub high : ℕ → ℕ
high v = v / 256

-- words, one after the other
abbrev pub bytes_in : List ℕ → List ℕ
bytes_in [] = []
bytes_in (v ∷ vs) = low v ∷ high v ∷ bytes_in vs
