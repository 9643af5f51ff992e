-- TEXTS AS THE LINES OF A SOURCE, each padded with spaces: the assembler finds every text again, and no label before it.
use Rattle.std.specs.Prelude.{List, [], ◌∷◌, ◌++◌, ℕ, ◌-◌, length, replicate}

-- a text as a line of 32 bytes, and texts as a source
unfoldable pub padded : List ℕ → List ℕ
padded t = t ++ replicate (32 - length t) 32

unfoldable pub source_of : List (List ℕ) → List ℕ
source_of [] = []
source_of (t ∷ ts) = padded t ++ source_of ts
