-- THE ADDRESSES OF A SECTION RISE AND ARE EVEN, whatever the order of the .ORGs, where no line is out of place.
use Rattle.std.specs.Prelude.{◌≡◌, List, [], ◌∷◌, ℕ, ◌+◌, ◌/◌, ◌%◌, ◌≤◌, ◌<◌, false}
use Rattle.assembler.specs.Source.{line_count, misplaced}
use Rattle.assembler.specs.Section.{words_placed}

-- an entry's address
abbrev pub address_in : ℕ → ℕ
address_in e = e / 65536

-- addresses from `low` on, each even and above the one before
abbrev pub Rises : ℕ → List ℕ → Type 0
Rises low [] = Unit {0}
Rises low (e ∷ l) = (low ≤ address_in e) × (address_in e % 2 ≡ 0) × (address_in e < 65536) × Rises (address_in e + 1) l

-- ---- all lines

abbrev pub PlacedRises : Type 0
PlacedRises = (s : List ℕ) → ((k : ℕ) → k < line_count s → misplaced s k ≡ false) → Rises 0 (words_placed s (line_count s))
