-- A LINE WITH A LABEL GIVES THE WORDS THAT 01'S READER GIVES OF THE SAME LINE WITH THE LABEL'S DIGITS IN ITS PLACE: `BR X` as `BR dd`,
-- `SOB R1,X` as `SOB R1,dd`, `MOV X,R0` as `MOV oooo(PC),R0`. The reader's words are given by the text's own definition: the words of the one op code whose text it is.
use Rattle.std.specs.Prelude.{Bool, true, not, ◌&&◌, ◌||◌, cond, ◌≡◌, List, [], ◌++◌, ℕ, ◌/◌, ◌%◌, ◌≤◌, ◌<◌, eqb, length}
use Rattle.hexdigits.specs.Digits.{letters, hex4, hex2}
use Rattle.wordmath.specs.Address.{plus, minus}
use Rattle.opcodes.specs.Fields.{high_byte}
use Rattle.plate.specs.Plate.{format_of}
use Rattle.optext.specs.Rows.{name_of}
use Rattle.optext.specs.Line.{is_reserved, row_of, text_of}
use Rattle.optext.specs.Column.{Whole}
use Rattle.optext.specs.Read.{op_of}
use Rattle.patchline.specs.declared.oneline.How.TheVariants.{Branch, Sob, Relative}
use Rattle.patchline.specs.Text.{slice}
use Rattle.patchline.specs.Line.{operands_at, comma_at, first_in, second_in, label_in, filled_in, alias_of, tail_of, filled, is_sob, said_of, ahead, behind}
use Rattle.assembler.specs.Source.{line_count, text_at, said_at, here_of, value_of, line_op}
use Rattle.refusal.specs.Page.{answered, left, told}
use Rattle.assembler.specs.Answer.{asm_of}
use Rattle.assembler_c.specs.Call.{assemble_call}
use Rattle.patchlaws.specs.Given.{Gives}

-- the op code whose text the line is with d for its label
pub record ReadsLine (t d ws : List ℕ) : Type 0 where
  pub whole : Whole ws
  pub text : text_of ws ≡ filled d t

-- the digits of a label of the value v, in a branch and in SOB at h
abbrev pub branch_digits : ℕ → ℕ → List ℕ
branch_digits v h = hex2 (ahead v h / 2 % 256)

abbrev pub sob_digits : ℕ → ℕ → List ℕ
sob_digits v h = hex2 (behind v h / 2 % 64)

-- a line that is taken as a branch, with one operand, a label: its words are the reader's
abbrev pub BranchRead : Type 0
BranchRead = (s t : List ℕ) (h : ℕ) → (said_of t).how ≡ Branch → length t ≤ comma_at t → 0 < length (label_in (first_in t))
    → (ws : List ℕ) × ReadsLine t (branch_digits (value_of s (label_in (first_in t))) h) ws × (line_op s h t ≡ op_of ws)

-- a line that is taken as SOB, with a label as its second operand
abbrev pub SobRead : Type 0
SobRead = (s t : List ℕ) (h : ℕ) → (said_of t).how ≡ Sob → label_in (first_in t) ≡ [] → 0 < length (label_in (second_in t))
    → (ws : List ℕ) × ReadsLine t (sob_digits (value_of s (label_in (second_in t))) h) ws × (line_op s h t ≡ op_of ws)

-- A label as A or @A, where it is an operand of an op code with two (format 10): `MOV X,R0` as `MOV oooo(PC),R0`. The offset is that from op
-- code + 4, or from op code + 6 where it is the third word
abbrev pub offset_digits : ℕ → ℕ → ℕ → List ℕ
offset_digits n v h = hex4 (minus v (plus h n)) ++ letters "(PC)"

-- the first operand is a label, and the second is not
abbrev pub FirstRead : Type 0
FirstRead = (s t : List ℕ) (h : ℕ) → (said_of t).how ≡ Relative → format_of (high_byte (said_of t).op.a) ≡ 10 → comma_at t < length t
    → 0 < length (label_in (first_in t)) → label_in (second_in t) ≡ []
    → (ws : List ℕ) × ReadsLine t (offset_digits 4 (value_of s (label_in (first_in t))) h) ws × (line_op s h t ≡ op_of ws)

-- the second operand is a label, and the first is not
abbrev pub SecondRead : Type 0
SecondRead = (s t : List ℕ) (h : ℕ) → (said_of t).how ≡ Relative → format_of (high_byte (said_of t).op.a) ≡ 10
    → label_in (first_in t) ≡ [] → 0 < length (label_in (second_in t))
    → (ws : List ℕ) × ReadsLine t (offset_digits (cond (eqb (said_of t).op.count 3) 6 4) (value_of s (label_in (second_in t))) h) ws × (line_op s h t ≡ op_of ws)

-- both are labels: `MOV X,Y` as `MOV oooo(PC),pppp(PC)`, the first offset from op code + 4, the second from op code + 6
abbrev pub filled_twice : List ℕ → List ℕ → List ℕ → List ℕ
filled_twice d e t = (alias_of (slice 0 (operands_at t) t) ++ filled_in d (first_in t)) ++ tail_of e t

abbrev pub BothRead : Type 0
BothRead = (s t : List ℕ) (h : ℕ) → (said_of t).how ≡ Relative → format_of (high_byte (said_of t).op.a) ≡ 10
    → 0 < length (label_in (first_in t)) → 0 < length (label_in (second_in t))
    → (ws : List ℕ) × Whole ws × (text_of ws ≡ filled_twice (offset_digits 4 (value_of s (label_in (first_in t))) h) (offset_digits 6 (value_of s (label_in (second_in t))) h) t) × (line_op s h t ≡ op_of ws)

-- A label as the one operand A or @A: of format 7, and of format 9 but SOB, and JSR and LEA with mode 0. CALL and JMP are JSR and LEA
abbrev pub takes_one : ℕ → Bool
takes_one w = eqb (format_of (high_byte w)) 7 || (eqb (format_of (high_byte w)) 9 && not (is_reserved w || is_sob w))

-- it is the line's only operand: `CLR X`, `JMP X`, `CALL X`
abbrev pub OnlyRead : Type 0
OnlyRead = (s t : List ℕ) (h : ℕ) → (said_of t).how ≡ Relative → takes_one (said_of t).op.a ≡ true → length t ≤ comma_at t → 0 < length (label_in (first_in t))
    → (ws : List ℕ) × ReadsLine t (offset_digits 4 (value_of s (label_in (first_in t))) h) ws × (line_op s h t ≡ op_of ws)

-- it is its second operand: `JSR R5,X`
abbrev pub LastRead : Type 0
LastRead = (s t : List ℕ) (h : ℕ) → (said_of t).how ≡ Relative → takes_one (said_of t).op.a ≡ true → label_in (first_in t) ≡ [] → 0 < length (label_in (second_in t))
    → (ws : List ℕ) × ReadsLine t (offset_digits 4 (value_of s (label_in (second_in t))) h) ws × (line_op s h t ≡ op_of ws)

-- what a label is put into as SOB is the text's row of that name
abbrev pub SobIsRow : Type 0
SobIsRow = (name_of 94 ≡ letters "SOB") × ((w : ℕ) → w < 65536 → (is_sob w ≡ true → row_of w ≡ 94) × (row_of w ≡ 94 → is_sob w ≡ true))

-- ---- in the bytes that the calls leave, as for a line that the reader takes itself

pub record LabelGives (s : List ℕ) (i : ℕ) (bytes : List ℕ) : Type 0 where
  pub branch : (said_at s i).how ≡ Branch → length (text_at s i) ≤ comma_at (text_at s i) → 0 < length (label_in (first_in (text_at s i)))
      → (ws : List ℕ) × ReadsLine (text_at s i) (branch_digits (value_of s (label_in (first_in (text_at s i)))) (here_of s i)) ws × Gives s i bytes ws
  pub sob : (said_at s i).how ≡ Sob → label_in (first_in (text_at s i)) ≡ [] → 0 < length (label_in (second_in (text_at s i)))
      → (ws : List ℕ) × ReadsLine (text_at s i) (sob_digits (value_of s (label_in (second_in (text_at s i)))) (here_of s i)) ws × Gives s i bytes ws
  pub first : (said_at s i).how ≡ Relative → format_of (high_byte (said_at s i).op.a) ≡ 10 → comma_at (text_at s i) < length (text_at s i)
      → 0 < length (label_in (first_in (text_at s i))) → label_in (second_in (text_at s i)) ≡ []
      → (ws : List ℕ) × ReadsLine (text_at s i) (offset_digits 4 (value_of s (label_in (first_in (text_at s i)))) (here_of s i)) ws × Gives s i bytes ws
  pub second : (said_at s i).how ≡ Relative → format_of (high_byte (said_at s i).op.a) ≡ 10
      → label_in (first_in (text_at s i)) ≡ [] → 0 < length (label_in (second_in (text_at s i)))
      → (ws : List ℕ) × ReadsLine (text_at s i) (offset_digits (cond (eqb (said_at s i).op.count 3) 6 4) (value_of s (label_in (second_in (text_at s i)))) (here_of s i)) ws × Gives s i bytes ws
  pub only : (said_at s i).how ≡ Relative → takes_one (said_at s i).op.a ≡ true → length (text_at s i) ≤ comma_at (text_at s i) → 0 < length (label_in (first_in (text_at s i)))
      → (ws : List ℕ) × ReadsLine (text_at s i) (offset_digits 4 (value_of s (label_in (first_in (text_at s i)))) (here_of s i)) ws × Gives s i bytes ws
  pub last : (said_at s i).how ≡ Relative → takes_one (said_at s i).op.a ≡ true → label_in (first_in (text_at s i)) ≡ [] → 0 < length (label_in (second_in (text_at s i)))
      → (ws : List ℕ) × ReadsLine (text_at s i) (offset_digits 4 (value_of s (label_in (second_in (text_at s i)))) (here_of s i)) ws × Gives s i bytes ws
  pub both : (said_at s i).how ≡ Relative → format_of (high_byte (said_at s i).op.a) ≡ 10 → 0 < length (label_in (first_in (text_at s i))) → 0 < length (label_in (second_in (text_at s i)))
      → (ws : List ℕ) × Whole ws × (text_of ws ≡ filled_twice (offset_digits 4 (value_of s (label_in (first_in (text_at s i)))) (here_of s i)) (offset_digits 6 (value_of s (label_in (second_in (text_at s i)))) (here_of s i)) (text_at s i))
      × Gives s i bytes ws

abbrev pub LabelsGive : Type 0
LabelsGive = (s out : List ℕ) (n : ℕ) (out' : List ℕ) → left (answered n) out' ≡ asm_of s out → (i : ℕ) → i < line_count s → LabelGives s i out'

abbrev pub Wd16LabelsGive : Type 0
Wd16LabelsGive = (s out b out' b' : List ℕ) → told {B = List ℕ × List ℕ} 0 (out', b') ≡ assemble_call s out b → (i : ℕ) → i < line_count s → LabelGives s i out'
