-- What the exported calls leave: the number that they answer, and the bytes that they were lent to write. 0 is no refusal; an answer's
-- buffer that is not 6 bytes is refused before all else; then a call is assembler's.
use Rattle.std.specs.Prelude.{ℕ, List}
use Rattle.refusal.specs.Page.{call, Told}
use Rattle.answer.specs.Answer.{three_words, answer_why, answering}
use Rattle.assembler.specs.Answer.{asm_of}
use Rattle.assembler.specs.Labels.{labels_page}

-- the answer's words: how many bytes were written, 0, 0; or 0, 0 and the line of a refusal
abbrev pub size_words : ℕ → List ℕ
size_words size = three_words size 0 0

-- the section and the answer
unfoldable pub assemble_call : List ℕ → List ℕ → List ℕ → Told (List ℕ × List ℕ)
assemble_call s out b = answering size_words b (call (answer_why b) (asm_of s out) out)

-- the labels and the answer
unfoldable pub labels_call : List ℕ → List ℕ → List ℕ → Told (List ℕ × List ℕ)
labels_call s out b = answering size_words b (call (answer_why b) (labels_page s out) out)
