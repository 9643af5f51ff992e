-- A LISTING, ASSEMBLED AGAIN, GIVES THE IMAGE'S WORDS BACK: the texts of its lines, each after .ORG with its address, are a source whose section has the
-- fitted words of the stretch, no other and no fewer.
use Rattle.std.specs.Prelude.{cond, List, [], ◌∷◌, ◌++◌, ℕ, zero, suc, ◌+◌, ◌%◌, ◌≤◌, ◌<◌, leb, length, take, get_or, ◌≡◌}
use Rattle.wordbytes.specs.Words.{word_at, byte_at}
use Rattle.benchline.specs.Line.{dashes}
use Rattle.optext.specs.Line.{word_text, text_of}
use Rattle.listing.specs.declared.CodeFound.{CodeFound}
use Rattle.listing.specs.declared.CodeFound.TheVariants.{Nothing, Cut, Whole}
use Rattle.listing.specs.Listing.{stands, words_at, found_at, line, next_at, listing_of, image_words}
use Rattle.assembler.specs.Section.{section_entry, section_of}
use Rattle.patchlaws.specs.Pieces.{Piece, piece_lines}
use Rattle.assembler.specs.Answer.{section_written, asm_of, longest_section}
use Rattle.patchlaws.specs.Padded.{source_of}

-- ---- the pieces of a listing

-- what a line shows: its address, words and text; an unfitted address nothing
abbrev pub piece : ℕ → List ℕ → List ℕ → Piece
piece a ws t = record { at = a; words = ws; text = t }

unfoldable pub shown_by : ℕ → List ℕ → CodeFound → List Piece
shown_by a ws Nothing = []
shown_by a ws Cut = piece a (take 1 ws) (word_text (get_or ws 0 0)) ∷ []
shown_by a ws (Whole n) = piece a (take n ws) (text_of (take n ws)) ∷ []

module _ (map image : List ℕ) (last : ℕ) where
  unfoldable pub pieces_from : ℕ → ℕ → List Piece
  pieces_from zero a = []
  pieces_from (suc n) a = cond (leb a last) (shown_by a (words_at image a) (found_at map image last a) ++ pieces_from n (next_at map image last a)) []

  -- the fitted words of the stretch with their addresses, as the entries of a section
  unfoldable pub words_from : ℕ → ℕ → List ℕ
  words_from zero a = []
  words_from (suc n) a = cond (stands map last a) (section_entry a (word_at image a) ∷ words_from n (a + 2)) (words_from n (a + 2))

unfoldable pub pieces_of : ℕ → ℕ → List ℕ → List ℕ → List Piece
pieces_of first last map image = pieces_from map image last image_words first

unfoldable pub fitted_words : ℕ → ℕ → List ℕ → List ℕ → List ℕ
fitted_words first last map image = words_from map image last image_words first

-- ---- they are what the listing's lines show

pub data Shows : List (List ℕ) → List Piece → Type 0 where
  ended : Shows [] []
  unfitted : (a : ℕ) (ls : List (List ℕ)) (ps : List Piece) → Shows ls ps → Shows (line a [] 0 dashes ∷ ls) ps
  shown : (a : ℕ) (ws t : List ℕ) (ls : List (List ℕ)) (ps : List Piece) → Shows ls ps → Shows (line a ws (length ws) t ∷ ls) (piece a ws t ∷ ps)
  -- ---- their words are the fitted words

module _ (first last : ℕ) (map image : List ℕ) where
  abbrev pub ListingShows : Type 0
  ListingShows = Shows (listing_of first last map image) (pieces_of first last map image)

  module _ (bytes : (k : ℕ) → byte_at image k < 256) (even : first % 2 ≡ 0) (small : last < 65536) where
    -- A LISTING'S TEXTS, EACH AFTER .ORG, ARE ASSEMBLED TO THE FITTED WORDS OF THE STRETCH: in an image of bytes, from an even address on, where the source has
    -- not over 1,024 lines and the output is long enough
    abbrev pub ListingAgain : Type 0
    ListingAgain = (out : List ℕ) → length (pieces_of first last map image) ≤ 512 → longest_section ≤ length out
        → asm_of (source_of (piece_lines (pieces_of first last map image))) out
        ≡ section_written (section_of (fitted_words first last map image)) out
