-- The words of a source by their addresses, and the word section that they make.
use Rattle.std.specs.Prelude.{cond, List, [], ◌∷◌, ◌++◌, ℕ, zero, suc, ◌+◌, ◌*◌, ◌/◌, ◌%◌, ◌≤◌, ltb, ◌≡◌, length, take}
use Rattle.wordmath.specs.Address.{plus}
use Rattle.optext.specs.declared.Op.{Op}
use Rattle.assembler.specs.Source.{text_at, here_of, line_op}

-- an entry is a number, the address before the sixteen bits of the word
abbrev pub section_entry : ℕ → ℕ → ℕ
section_entry address word = address * 65536 + word % 65536

-- among rising entries each place keeps the lower and hands on the higher

abbrev pub lower_of : ℕ → ℕ → ℕ
lower_of x y = cond (ltb x y) x y

abbrev pub higher_of : ℕ → ℕ → ℕ
higher_of x y = cond (ltb x y) y x

unfoldable pub inserted : ℕ → List ℕ → List ℕ
inserted x [] = x ∷ []
inserted x (y ∷ ys) = lower_of x y ∷ inserted (higher_of x y) ys

-- up to three words from an address on
unfoldable pub entered : Op → ℕ → List ℕ → List ℕ
entered o h l =
    cond (ltb 2 o.count) (inserted (section_entry (plus h 4) o.c) (inserted (section_entry (plus h 2) o.b) (inserted (section_entry h o.a) l)))
    (cond (ltb 1 o.count) (inserted (section_entry (plus h 2) o.b) (inserted (section_entry h o.a) l))
    (cond (ltb 0 o.count) (inserted (section_entry h o.a) l) l))

-- the words of the first i lines
unfoldable pub words_placed : List ℕ → ℕ → List ℕ
words_placed s zero = []
words_placed s (suc i) = entered (line_op s (here_of s i) (text_at s i)) (here_of s i) (words_placed s i)

-- two bytes, low first; an entry's address and word; the count and the entries
abbrev pub pair : ℕ → List ℕ
pair x = x % 256 ∷ x / 256 % 256 ∷ []

abbrev pub entry_bytes : ℕ → List ℕ
entry_bytes e = e / 65536 % 256 ∷ e / 16777216 % 256 ∷ e % 256 ∷ e / 256 % 256 ∷ []

unfoldable pub section_bytes : List ℕ → List ℕ
section_bytes [] = []
section_bytes (e ∷ l) = entry_bytes e ++ section_bytes l

unfoldable pub section_of : List ℕ → List ℕ
section_of l = pair (length l) ++ section_bytes l

-- the most words of a source: three a line
abbrev pub most_words : ℕ
most_words = 3072

-- the table whose first entries these are: one entry more, and a line's entries more
pub record Inserts (t e : List ℕ) (n x r : ℕ) : Type 0 where
  pub entries : take r e ≡ inserted x (take n t)
  pub count : r ≡ n + 1
  pub size : length e ≡ most_words

pub record Enters (t e : List ℕ) (n : ℕ) (o : Op) (h r : ℕ) : Type 0 where
  pub entries : take r e ≡ entered o h (take n t)
  pub count : r ≤ n + 3
  pub size : length e ≡ most_words
