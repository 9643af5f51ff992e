-- What the exported calls leave: the number that they answer, and the bytes that they were lent to write. 0 is no refusal.
-- The text's own refusals and answers are optext's.
use Rattle.std.specs.Prelude.{ℕ, ◌/◌, ◌%◌, Bool, not, cond, List, [], ◌∷◌, ◌≡◌, length, take, eqb, ltb}
use Rattle.hexdigits.specs.Over.{in_front_of}
use Rattle.wordbytes.specs.Words.{word_at, bytes_in}
use Rattle.refusal.specs.Numbers.{words_odd}
use Rattle.refusal.specs.Page.{Page, Left, left, call, first, Told, reading_at}
use Rattle.answer.specs.Answer.{three_words, answer_why, place_words, answering}
use Rattle.optext.specs.Answer.{LinePage, write_of}
use Rattle.optext.specs.Words.{Reads}

-- ---- what is lent

-- of n words the first three count, as no op code has more
abbrev pub lent : ℕ → ℕ
lent n = cond (ltb n 3) n 3

-- the words of the bytes, low byte first
unfoldable pub words_in : List ℕ → List ℕ
words_in b = take (lent (length b / 2)) (word_at b 0 ∷ word_at b 2 ∷ word_at b 4 ∷ [])

-- the bytes are not whole words
abbrev pub odd_length : List ℕ → Bool
odd_length b = not (eqb (length b % 2) 0)

-- 21: the answer a is not 6 bytes; then 38: an odd number of bytes
unfoldable pub lent_why : List ℕ → List ℕ → ℕ
lent_why a b = first (answer_why a) (cond (odd_length b) words_odd 0)

-- ---- writing: the answer's words are the line's length, the words taken, 0

abbrev pub text_words : LinePage → List ℕ
text_words p = three_words p.count p.words 0

-- the text and the answer
unfoldable pub write_call : List ℕ → List ℕ → List ℕ → Told (List ℕ × List ℕ)
write_call b t a = answering text_words a (call (lent_why a b) (write_of (words_in b) t) t)

-- ---- reading: the answer's words are the number of words, 0, 0; or 0, 0 and the column

-- the words' bytes b and the answer a: bytes past the words that are read stay
abbrev pub words_read : List ℕ → List ℕ → Left ℕ (List ℕ) → Told (List ℕ × List ℕ)
words_read b a l = reading_at (λ n e. (in_front_of (bytes_in (take n e)) b, three_words n 0 0)) (λ column e. (b, place_words column)) (λ e. (b, a)) l

-- the page that optext's reader answers to the text and the words lent, and the words that it leaves
pub record ReadCall (t b a : List ℕ) (x : Told (List ℕ × List ℕ)) : Type 0 where
  pub page : Page ℕ
  pub words : List ℕ
  pub reads : lent_why a b ≡ 0 → Reads page t (words_in b) words
  pub leaves : x ≡ words_read b a (call (lent_why a b) (left page words) (words_in b))
