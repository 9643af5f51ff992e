-- Letters and hex digits, as the writers of text write them.
use Rattle.std.specs.Prelude.{List, [], ◌∷◌, ℕ, ◌/◌, ◌%◌, get_or}
use Prim.Native.Char.{code}
use Prim.Native.String.{String, [] as ended, ◌∷◌ as ◌then◌}

-- the bytes of a text
abbrev pub letters : String → List ℕ
letters ended = []
letters (c then s) = code c ∷ letters s

-- hex digits, upper case
unfoldable pub digits : List ℕ
digits = letters "0123456789ABCDEF"

-- the letter of a digit, or 0
unfoldable pub hex_of : ℕ → ℕ
hex_of d = get_or digits d 0

unfoldable pub hex4 : ℕ → List ℕ
hex4 x = hex_of (x / 4096) ∷ hex_of (x / 256 % 16) ∷ hex_of (x / 16 % 16) ∷ hex_of (x % 16) ∷ []

unfoldable pub hex2 : ℕ → List ℕ
hex2 x = hex_of (x / 16) ∷ hex_of (x % 16) ∷ []
