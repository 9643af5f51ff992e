-- A LINE THAT 01'S READER TAKES GIVES EXACTLY THAT READER'S WORDS, in the bytes that `assemble` and `wd16_assemble` leave. The reader's words
-- are given by the text's own definition: the words of the one op code (`Whole`) whose text the line is.
use Rattle.std.specs.Prelude.{◌≡◌, List, [], ℕ, suc, ◌+◌, ◌*◌, ◌<◌, length, get_or}
use Rattle.wordbytes.specs.Words.{word_at}
use Rattle.optext.specs.Line.{text_of}
use Rattle.optext.specs.Column.{Whole, IsText}
use Rattle.optext.specs.Read.{op_of}
use Rattle.patchline.specs.Line.{op_in}
use Rattle.assembler.specs.Source.{line_count, text_at, origin_at}
use Rattle.refusal.specs.Page.{answered, left, told}
use Rattle.assembler.specs.Answer.{asm_of}
use Rattle.assembler_c.specs.Call.{assemble_call}

-- ---- what a word section has: a count, and then the address and the word of each entry

pub record Has (bytes : List ℕ) (a w : ℕ) : Type 0 where
  pub place : ℕ
  pub within : place < word_at bytes 0
  pub address : word_at bytes (2 + place * 4) ≡ a
  pub word : word_at bytes (4 + place * 4) ≡ w

-- the line i of a source gives these words: the section has each at its address, from the line's origin on; and no more of them, so
-- the next line begins after them
pub record Gives (s : List ℕ) (i : ℕ) (bytes ws : List ℕ) : Type 0 where
  pub words : (j : ℕ) → j < length ws → Has bytes (origin_at s i + 2 * j) (get_or ws j 0)
  pub next : origin_at s (suc i) ≡ origin_at s i + 2 * length ws

-- at an address there is one word
abbrev pub OneWordAt : Type 0
OneWordAt = (s out : List ℕ) (n : ℕ) (out' : List ℕ) → left (answered n) out' ≡ asm_of s out → (a w v : ℕ) → Has out' a w → Has out' a v → w ≡ v

-- ---- a line that 01's reader takes, of a source that is assembled

abbrev pub ReaderGives : Type 0
ReaderGives = (s out : List ℕ) (n : ℕ) (out' : List ℕ) → left (answered n) out' ≡ asm_of s out
    → (i : ℕ) (ws : List ℕ) → i < line_count s → Whole ws → text_of ws ≡ text_at s i → Gives s i out' ws

-- the same for C
abbrev pub Wd16ReaderGives : Type 0
Wd16ReaderGives = (s out b out' b' : List ℕ) → told {B = List ℕ × List ℕ} 0 (out', b') ≡ assemble_call s out b
    → (i : ℕ) (ws : List ℕ) → i < line_count s → Whole ws → text_of ws ≡ text_at s i → Gives s i out' ws

-- ---- what the assembler takes a text for is the text's own meaning: the op code whose text it is, or none

abbrev pub OpIsText : Type 0
OpIsText = (t : List ℕ) → ((ws : List ℕ) → Whole ws → text_of ws ≡ t → op_in t ≡ op_of ws) × ((IsText t → ⊥) → op_in t ≡ op_of [])
