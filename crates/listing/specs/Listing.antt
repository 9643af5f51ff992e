-- A listing: the lines of a stretch of an image from a first to a last even address, the last included. Address, words, text, a
-- space apart, one op code a line.
use Rattle.std.specs.Prelude.{ℕ, zero, suc, ◌+◌, ◌*◌, ◌≤◌, Bool, ◌&&◌, ◌||◌, cond, List, [], ◌∷◌, ◌++◌, ◌≡◌, take, get_or, leb, ltb}
use Rattle.wordbytes.specs.Words.{word_at}
use Rattle.board.specs.Work.{fitted}
use Rattle.benchline.specs.Line.{dashes, fields}
use Rattle.optext.specs.Line.{word_text, taken, text_of}
use Rattle.listing.specs.declared.CodeFound.{CodeFound}
use Rattle.listing.specs.declared.CodeFound.TheVariants.{Nothing, Cut, Whole}

-- ---- what stands at an address

-- a fitted word inside the stretch
abbrev pub stands : List ℕ → ℕ → ℕ → Bool
stands map last a = leb a last && fitted map a

-- all of n words, as many as an op code may have
unfoldable pub all_stand : List ℕ → ℕ → ℕ → ℕ → Bool
all_stand map last a n = (stands map last a && (ltb n 2 || stands map last (a + 2))) && (ltb n 3 || stands map last (a + 4))

-- the three words from an address on
abbrev pub words_at : List ℕ → ℕ → List ℕ
words_at image a = word_at image a ∷ word_at image (a + 2) ∷ word_at image (a + 4) ∷ []

-- nothing fitted; an op code cut by an unfitted word or by the end of the stretch; or a whole op code, with the number of its words
unfoldable pub found_at : List ℕ → List ℕ → ℕ → ℕ → CodeFound
found_at map image last a =
    let n = taken (word_at image a) in
    cond (fitted map a) (cond (all_stand map last a n) (Whole n) Cut) Nothing

-- ---- its line, and the words that it moves on by

-- the address a and the first n of the words ws, a space after each, and the text
abbrev pub line : ℕ → List ℕ → ℕ → List ℕ → List ℕ
line a ws n text = fields (a ∷ ws) (n + 1) ++ text

unfoldable pub line_of : ℕ → List ℕ → CodeFound → List ℕ
line_of a ws Nothing = line a ws 0 dashes
line_of a ws Cut = line a ws 1 (word_text (get_or ws 0 0))
line_of a ws (Whole n) = line a ws n (text_of (take n ws))

abbrev pub moves_on : CodeFound → ℕ
moves_on Nothing = 1
moves_on Cut = 1
moves_on (Whole n) = n

-- what is found with the first word w: a whole op code has the words that it takes, up to three
abbrev pub FoundFits : ℕ → CodeFound → Type 0
FoundFits w Nothing = Unit {0}
FoundFits w Cut = Unit {0}
FoundFits w (Whole n) = (n ≡ taken w) × (n ≤ 3)

module _ (map image : List ℕ) (last : ℕ) where
  unfoldable pub listing_line : ℕ → List ℕ
  listing_line a = line_of a (words_at image a) (found_at map image last a)

  unfoldable pub next_at : ℕ → ℕ
  next_at a = a + moves_on (found_at map image last a) * 2

  -- ---- the stretch: at most n lines from an address on
  unfoldable pub lines_from : ℕ → ℕ → List (List ℕ)
  lines_from zero a = []
  lines_from (suc n) a = cond (leb a last) (listing_line a ∷ lines_from n (next_at a)) []

-- an image has so many words, and no listing more lines
abbrev pub image_words : ℕ
image_words = 32768

unfoldable pub listing_of : ℕ → ℕ → List ℕ → List ℕ → List (List ℕ)
listing_of first last map image = lines_from map image last image_words first
