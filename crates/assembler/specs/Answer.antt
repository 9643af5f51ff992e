-- What the assembler answers and leaves in the lent output, on any source and any output. A refusal leaves it as lent.
use Rattle.std.specs.Prelude.{Result, Ok, Err, cond, List, [], ◌∷◌, ℕ, ◌%◌, ltb, eqb, length}
use Rattle.hexdigits.specs.Over.{in_front_of}
use Rattle.refusal.specs.Numbers.{unknown_text, label_again, label_missing, out_of_reach, out_of_place, source_lines, output_short}
use Rattle.refusal.specs.Page.{Page, refused, refused_at, answered, Left, left, call, first}
use Rattle.assembler.specs.Source.{line_count, most_lines, lowest}
use Rattle.assembler.specs.Section.{words_placed, section_of}
use Rattle.refusal.specs.Answer.{number}
use Rattle.assembler.specs.declared.SourceRefusal.{SourceRefusal}
use Rattle.assembler.specs.declared.SourceRefusal.TheVariants.{Whole, At}
use Rattle.assembler.specs.declared.source.Fault.{Fault}
use Rattle.assembler.specs.declared.source.Fault.TheVariants.{Text, Given, Missing, Place, Far}

-- "in the order 24, 25, 26, 28, 27"
unfoldable pub faults : List Fault
faults = Text ∷ Given ∷ Missing ∷ Place ∷ Far ∷ []

abbrev pub fault_number : Fault → ℕ
fault_number Text = unknown_text
fault_number Given = label_again
fault_number Missing = label_missing
fault_number Place = out_of_place
fault_number Far = out_of_reach

-- an answer in 02's numbers: the section's length, a refusal's number alone, or with its line
abbrev pub assembled_page : Result ℕ SourceRefusal → Page ℕ
assembled_page (Ok n) = answered n
assembled_page (Err (Whole why)) = refused (number why)
assembled_page (Err (At why line)) = refused_at (number why) line

-- ---- a call over a source

-- 10: an output under so many bytes; then 36: not whole lines of 32 bytes, or over 1,024
unfoldable pub source_why : ℕ → List ℕ → ℕ → ℕ
source_why room s size =
    first (cond (ltb size room) output_short 0)
    (first (cond (eqb (length s % 32) 0) 0 source_lines)
    (cond (ltb most_lines (line_count s)) source_lines 0))

-- what is written in front of the output, of which the rest is as lent, and its length
abbrev pub section_written : List ℕ → List ℕ → Left ℕ (List ℕ)
section_written bytes out = left (answered (length bytes)) (in_front_of bytes out)

-- the first of these faults with its lowest line, or else what is right
unfoldable pub checked : List Fault → List ℕ → Left ℕ (List ℕ) → List ℕ → Left ℕ (List ℕ)
checked [] s right out = right
checked (f ∷ fs) s right out = cond (ltb (lowest f s) (line_count s)) (left (refused_at (fault_number f) (lowest f s)) out) (checked fs s right out)

-- ---- the assembler

-- the longest section: a count, and three words a line with their addresses
abbrev pub longest_section : ℕ
longest_section = 12290

-- the section of a source that has no fault
unfoldable pub assembled : List ℕ → List ℕ
assembled s = section_of (words_placed s (line_count s))

unfoldable pub asm_of : List ℕ → List ℕ → Left ℕ (List ℕ)
asm_of s out = call (source_why longest_section s (length out)) (checked faults s (section_written (assembled s) out) out) out
