-- What the exported call leaves: the number that it answers, and the bytes that it was lent to write. 0 is no refusal; an answer's buffer
-- that is not 6 bytes is refused before all else; then the call is listing's.
use Rattle.std.specs.Prelude.{ℕ, List}
use Rattle.refusal.specs.Page.{call, Told}
use Rattle.answer.specs.Answer.{three_words, answer_why, answering}
use Rattle.listing.specs.Calls.{Next, goes_on, ends, Lined, line_call}

-- the answer's words: the line's length; the address of the next line, 0 where there is none; 1 where this is the last, else 0
abbrev next_words : ℕ → Next → List ℕ
next_words n (goes_on a) = three_words n a 0
next_words n ends = three_words n 0 1

abbrev pub next_words_of : Lined → List ℕ
next_words_of p = next_words p.count p.next

-- the text and the answer
unfoldable pub list_call : List ℕ → List ℕ → ℕ → ℕ → List ℕ → List ℕ → Told (List ℕ × List ℕ)
list_call image map a last t b = answering next_words_of b (call (answer_why b) (line_call image map a last t) t)
