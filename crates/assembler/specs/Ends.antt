-- How an assembly ends, by the number of the first refusal that applies; and what a line is like that has no fault.
use Rattle.std.specs.Prelude.{ℕ, Bool, ◌&&◌, cond, false, List, [], ◌∷◌, ◌≡◌, leb, ltb, length}
use Rattle.refusal.specs.Numbers.{unknown_text, out_of_place}
use Rattle.refusal.specs.Page.{first}
use Rattle.assembler.specs.declared.source.Fault.{Fault}
use Rattle.assembler.specs.Source.{line_count, lowest, line_at, text_at, said_at, here_of, is_unknown, is_given, lacks, misplaced, far}
use Rattle.assembler.specs.Answer.{faults, fault_number, source_why, longest_section}
use Rattle.assembler.specs.Labels.{label_faults, most_labels}
use Rattle.patchline.specs.Text.{label_of}

-- the number of the first fault that a line has, 0 where none has any
unfoldable pub fault_why : List Fault → List ℕ → ℕ
fault_why [] s = 0
fault_why (f ∷ fs) s = cond (ltb (lowest f s) (line_count s)) (fault_number f) (fault_why fs s)

-- 10; 36, not whole lines, or over 1,024; then 24, 25, 26, 28, 27
abbrev pub assemble_why : List ℕ → List ℕ → ℕ
assemble_why s out = first (source_why longest_section s (length out)) (fault_why faults s)

-- 10; 36; then 24, 25
abbrev pub labels_why : List ℕ → List ℕ → ℕ
labels_why s out = first (source_why most_labels s (length out)) (fault_why label_faults s)

-- 24 to 28 tell a line
abbrev pub tells_line : ℕ → Bool
tells_line n = leb unknown_text n && leb n out_of_place

-- the line told with a number: the lowest that has its fault
pub record FaultLine (s : List ℕ) (number line : ℕ) : Type 0 where
  pub fault : Fault
  pub number_is : number ≡ fault_number fault
  pub line_is : line ≡ lowest fault s

-- a line with none of the five faults
pub record Right (s : List ℕ) (i : ℕ) : Type 0 where
  pub known : is_unknown (said_at s i).how ≡ false
  pub new : is_given s i (label_of (line_at s i)) ≡ false
  pub found : lacks s (text_at s i) ≡ false
  pub in_place : misplaced s i ≡ false
  pub near : far s (here_of s i) (text_at s i) ≡ false
