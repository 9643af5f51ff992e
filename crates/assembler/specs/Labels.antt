-- The labels of a source: for each line the length of its label, 0 where it has none, and the address that the line begins at, which is
-- the label's value. A line whose text is unknown, and a label that is given again, make them doubtful and are refused; a label that is
-- missing, and words out of place or out of reach, are not.
use Rattle.std.specs.Prelude.{Result, List, [], ◌∷◌, ◌++◌, ℕ, zero, suc, length}
use Rattle.patchline.specs.Text.{label_of}
use Rattle.refusal.specs.Page.{Page, Left, call}
use Rattle.assembler.specs.declared.SourceRefusal.{SourceRefusal}
use Rattle.assembler.specs.declared.source.Fault.{Fault}
use Rattle.assembler.specs.declared.source.Fault.TheVariants.{Text, Given}
use Rattle.assembler.specs.Source.{line_count, line_at, here_of}
use Rattle.assembler.specs.Section.{pair}
use Rattle.assembler.specs.Answer.{assembled_page, source_why, section_written, checked}

-- four bytes a line
abbrev pub label_at : List ℕ → ℕ → List ℕ
label_at s i = pair (length (label_of (line_at s i))) ++ pair (here_of s i)

-- those of the first i lines, and all
unfoldable pub labels_to : List ℕ → ℕ → List ℕ
labels_to s zero = []
labels_to s (suc i) = labels_to s i ++ label_at s i

abbrev pub labels_of : List ℕ → List ℕ
labels_of s = labels_to s (line_count s)

-- the number of bytes written
abbrev pub labelled_page : Result ℕ SourceRefusal → Page ℕ
labelled_page r = assembled_page r

-- 24 and 25
unfoldable pub label_faults : List Fault
label_faults = Text ∷ Given ∷ []

-- four bytes a line
abbrev pub most_labels : ℕ
most_labels = 4096

unfoldable pub labels_page : List ℕ → List ℕ → Left ℕ (List ℕ)
labels_page s out = call (source_why most_labels s (length out)) (checked label_faults s (section_written (labels_of s) out) out) out
