-- A SOURCE OF PIECES, .ORG and a text each, at rising addresses: it is assembled, and its section has exactly the pieces' words.
use Rattle.std.specs.Prelude.{◌≡◌, List, [], ◌∷◌, ◌++◌, ℕ, ◌+◌, ◌*◌, ◌%◌, ◌≤◌, length}
use Rattle.optext.specs.Read.{op_of}
use Rattle.optext.specs.Shown.{Stands}
use Rattle.patchline.specs.declared.oneline.How.TheVariants.{Plain}
use Rattle.patchline.specs.Line.{says, said_of}
use Rattle.assembler.specs.Section.{section_entry, section_of}
use Rattle.patchlaws.specs.Again.{origin_line}
use Rattle.assembler.specs.Answer.{section_written, asm_of, longest_section}
use Rattle.patchlaws.specs.Padded.{source_of}

-- ---- pieces: words from an address on, and the text that gives them

pub record Piece : Type 0 where
  pub at : ℕ
  pub words : List ℕ
  pub text : List ℕ

abbrev pub piece_end : Piece → ℕ
piece_end p = p.at + 2 * length p.words

-- two lines a piece
unfoldable pub piece_lines : List Piece → List (List ℕ)
piece_lines [] = []
piece_lines (p ∷ ps) = origin_line p.at ∷ p.text ∷ piece_lines ps

-- the words with their addresses, as the entries of a section
abbrev pub entries_of_words : ℕ → List ℕ → List ℕ
entries_of_words a [] = []
entries_of_words a (w ∷ ws) = section_entry a w ∷ entries_of_words (a + 2) ws

unfoldable pub entries_of_pieces : List Piece → List ℕ
entries_of_pieces [] = []
entries_of_pieces (p ∷ ps) = entries_of_words p.at p.words ++ entries_of_pieces ps

-- one to three words from an even address on, and a text that says them
pub record GoodPiece (p : Piece) : Type 0 where
  pub even : p.at % 2 ≡ 0
  pub some : 1 ≤ length p.words
  pub few : length p.words ≤ 3
  pub within : piece_end p ≤ 65536
  pub stands : Stands p.text
  pub said : said_of p.text ≡ says Plain (op_of p.words)

-- each from the end of the one before on
unfoldable pub Rise : ℕ → List Piece → Type 0
Rise low [] = Unit {0}
Rise low (p ∷ ps) = (low ≤ p.at) × GoodPiece p × Rise (piece_end p) ps

-- ---- the source of the pieces

module _ (ps : List Piece) (r : Rise 0 ps) where
  -- ---- its words

  -- THE SECTION OF THE PIECES IS THEIR WORDS
  abbrev pub PiecesAgain : Type 0
  PiecesAgain = (out : List ℕ) → longest_section ≤ length out → length ps ≤ 512
      → asm_of (source_of (piece_lines ps)) out ≡ section_written (section_of (entries_of_pieces ps)) out
