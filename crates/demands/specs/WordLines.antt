-- 02, WISH 6: "Here .WORD may hold an op code; 01's line reader still doesn't take that." .WORD and the four digits of a first word that is neither reserved
-- nor illegal (`word_text`: a listing has it, and `write_word` writes it) is the text of no op code, so every call of the reader refuses it.
use Rattle.std.specs.Prelude.{ℕ, ◌≤◌, ◌<◌, true, false, List, ◌≡◌, length, Result}
use Rattle.optext.specs.declared.ReadRefusal.{ReadRefusal}
use Rattle.optext.specs.Line.{is_reserved, word_text}
use Rattle.optext.specs.Answer.{read_page}
use Rattle.optext.specs.Column.{IsText}
use Rattle.optext.specs.Words.{Reads}
use Rattle.optext.specs.Theorems.{has_column}
use Rattle.refusal.specs.Page.{told}
use Rattle.optext_c.specs.Calls.{odd_length, ReadCall}
use Rattle.demands.specs.Terms.{tells_column}

abbrev pub WordNoText : Type 0
WordNoText = (w : ℕ) → w < 65536 → is_reserved w ≡ false → IsText (word_text w) → ⊥

-- a call of `read` with room for the words answers a number with a column, and leaves the words as lent
abbrev pub WordNotRead : Type 0
WordNotRead = (w : ℕ) (words words' : List ℕ) (r : Result ℕ ReadRefusal) → w < 65536 → is_reserved w ≡ false → 3 ≤ length words
    → Reads (read_page r) (word_text w) words words' → (has_column r ≡ true) × (words' ≡ words)

-- for C: b are the words' bytes, a the answer's
abbrev pub Wd16WordNotRead : Type 0
Wd16WordNotRead = (w : ℕ) (b a : List ℕ) (number : ℕ) (b' a' : List ℕ) → w < 65536 → is_reserved w ≡ false → length a ≡ 6 → odd_length b ≡ false → 6 ≤ length b
    → ReadCall (word_text w) b a (told number (b', a')) → (tells_column number ≡ true) × (b' ≡ b)
