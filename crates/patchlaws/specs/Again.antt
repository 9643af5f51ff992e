-- A LINE THAT 01'S READER TAKES GIVES EXACTLY THAT READER'S WORDS, whatever the other lines are; so the texts of a listing give back the words that they list.
use Rattle.std.specs.Prelude.{List, ◌++◌, [], ◌∷◌, ℕ, suc, ◌<◌, ◌≡◌, length}
use Rattle.hexdigits.specs.Digits.{letters, hex4}
use Rattle.optext.specs.Line.{word_text, text_of}
use Rattle.optext.specs.Column.{Whole}
use Rattle.optext.specs.Read.{words_of_text, op_of}
use Rattle.patchline.specs.declared.oneline.How.TheVariants.{Origin}
use Rattle.patchline.specs.Line.{op, says, said_of}
use Rattle.assembler.specs.Source.{text_at, here_of, line_op}
use Rattle.assembler.specs.Section.{entered, words_placed}

-- ---- the lines of a listing

unfoldable pub origin_line : ℕ → List ℕ
origin_line a = letters ".ORG " ++ hex4 a

abbrev pub ReaderWords : Type 0
ReaderWords = (s t : List ℕ) (h : ℕ) → 0 < length t → 0 < length (words_of_text t) → line_op s h t ≡ op_of (words_of_text t)

-- and they are placed from the origin on that the line begins at
abbrev pub ReaderPlaced : Type 0
ReaderPlaced = (s : List ℕ) (i : ℕ) → 0 < length (text_at s i) → 0 < length (words_of_text (text_at s i))
    → words_placed s (suc i) ≡ entered (op_of (words_of_text (text_at s i))) (here_of s i) (words_placed s i)

-- ---- the lines of a listing

abbrev pub ListedAgain : Type 0
ListedAgain = (s vs : List ℕ) (h : ℕ) → Whole vs → line_op s h (text_of vs) ≡ op_of vs

module _ (w : ℕ) (l : w < 65536) where
  abbrev pub WordAgain : Type 0
  WordAgain = (s : List ℕ) (h : ℕ) → line_op s h (word_text w) ≡ op_of (w ∷ [])

  -- .ORG is the origin that its digits are
  abbrev pub OriginAgain : Type 0
  OriginAgain = said_of (origin_line w) ≡ says Origin (op 0 w)
