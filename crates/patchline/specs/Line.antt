-- What the rest of a line says. A label in it stands for digits: the text with zeros in its place is read by 01's reader, and what the label comes to is put in later.
use Rattle.std.specs.Prelude.{Option, Some, None, Bool, true, false, cond, ◌&&◌, List, [], ◌∷◌, ◌++◌, ℕ, ◌+◌, ◌/◌, ◌%◌, ltb, eqb, length, drop, get_or}
use Rattle.hexdigits.specs.Digits.{letters, hex4}
use Rattle.optext.specs.declared.Op.{Op}
use Rattle.optext.specs.Digits.{un_hex4}
use Rattle.optext.specs.Read.{same_text, words_of_text, op_of}
use Rattle.plate.specs.Plate.{format_of}
use Rattle.wordmath.specs.Address.{plus, minus}
use Rattle.patchline.specs.Text.{slice, find_from, is_name}
use Rattle.patchline.specs.declared.oneline.How.{How}
use Rattle.patchline.specs.declared.oneline.How.TheVariants.{Unknown, Origin, Plain, Branch, Sob, Relative}
use Rattle.patchline.specs.declared.oneline.Said.{Said}

-- mnemonic with its space, first operand, second operand after the comma
unfoldable pub operands_at : List ℕ → ℕ
operands_at t = find_from 32 t 0 + 1

unfoldable pub comma_at : List ℕ → ℕ
comma_at t = find_from 44 t (operands_at t)

unfoldable pub first_in : List ℕ → List ℕ
first_in t = slice (operands_at t) (comma_at t) t

unfoldable pub second_in : List ℕ → List ℕ
second_in t = drop (comma_at t + 1) t

-- an operand without its @, and the label that it is
abbrev pub at_of : List ℕ → ℕ
at_of o = cond (eqb (get_or o 0 0) 64) 1 0

unfoldable pub bare_operand : List ℕ → List ℕ
bare_operand o = drop (at_of o) o

unfoldable pub label_in : List ℕ → List ℕ
label_in o = cond (is_name (bare_operand o)) (bare_operand o) []

-- the operand with digits d where its label stands
unfoldable pub filled_in : List ℕ → List ℕ → List ℕ
filled_in d o = cond (is_name (bare_operand o)) (slice 0 (at_of o) o ++ d) o

-- "the manual's aliases BHIS, BLO, CALL and JMP"
unfoldable pub alias_of : List ℕ → List ℕ
alias_of h =
    cond (same_text h (letters "BHIS ")) (letters "BCC ")
    (cond (same_text h (letters "BLO ")) (letters "BCS ")
    (cond (same_text h (letters "CALL ")) (letters "JSR PC,")
    (cond (same_text h (letters "JMP ")) (letters "LEA PC,") h)))

-- the text with digits d for its labels
unfoldable pub tail_of : List ℕ → List ℕ → List ℕ
tail_of d t = cond (ltb (comma_at t) (length t)) (44 ∷ filled_in d (second_in t)) []

unfoldable pub filled : List ℕ → List ℕ → List ℕ
filled d t = (alias_of (slice 0 (operands_at t) t) ++ filled_in d (first_in t)) ++ tail_of d t

-- a directive and four digits
unfoldable pub is_number : List ℕ → Bool
is_number t = same_text t (hex4 (un_hex4 t))

unfoldable pub is_directive : List ℕ → List ℕ → Bool
is_directive name t = same_text (slice 0 (length name) t) name && is_number (drop (length name) t)

-- the plate's format 5, and SOB
abbrev pub is_branch : ℕ → Bool
is_branch w = eqb (format_of (w / 256)) 5

abbrev pub is_sob : ℕ → Bool
is_sob w = eqb (w / 512) 59

-- how a line is taken, and its words; of .ORG the origin as if it were the first word
abbrev pub says : How → Op → Said
says how op = record { how = how; op = op }

abbrev pub op : ℕ → ℕ → Op
op n a = record { count = n; a = a; b = 0; c = 0 }

-- the op code whose text this is; without words if there is none
unfoldable pub op_in : List ℕ → Op
op_in t = op_of (words_of_text t)

-- the op code that there is, or none
abbrev pub op_or : Option Op → Op
op_or (Some o) = o
op_or None = op 0 0

unfoldable pub said_with : Op → Op → Said
said_with field offset =
    cond (is_branch field.a) (says Branch field)
    (cond (is_sob field.a) (says Sob field)
    (cond (eqb offset.count 0) (says Unknown (op 0 0)) (says Relative offset)))

unfoldable pub said_of : List ℕ → Said
said_of t =
    cond (eqb (length t) 0) (says Plain (op 0 0))
    (cond (ltb 0 (op_in t).count) (says Plain (op_in t))
    (cond (is_directive (letters ".ORG ") t) (says Origin (op 0 (un_hex4 (drop 5 t))))
    (cond (is_directive (letters ".WORD ") t) (says Plain (op 1 (un_hex4 (drop 6 t))))
    (said_with (op_in (filled (letters "00") t)) (op_in (filled (letters "0000(PC)") t))))))

-- a label's value v for an op code at h: a branch counts words from the next op code, SOB the words back to it, an offset from the word after it
abbrev pub ahead : ℕ → ℕ → ℕ
ahead v h = minus v (plus h 2)

abbrev pub behind : ℕ → ℕ → ℕ
behind v h = minus (plus h 2) v

-- -128 to 127 words, and 0 to 63 back
abbrev pub reaches : How → ℕ → ℕ → Bool
reaches Unknown v h = true
reaches Origin v h = true
reaches Plain v h = true
reaches Branch v h = ltb (plus (ahead v h) 256) 512
reaches Sob v h = ltb (behind v h) 128
reaches Relative v h = true

-- the words with the label in them; `third`: its offset is the third word, from op code + 6, and not the second, from op code + 4
abbrev pub with_a : ℕ → Op → Op
with_a x o = record { count = o.count; a = x; b = o.b; c = o.c }

abbrev pub with_offset : Bool → ℕ → ℕ → Op → Op
with_offset true v h o = record { count = o.count; a = o.a; b = o.b; c = minus v (plus h 6) }
with_offset false v h o = record { count = o.count; a = o.a; b = minus v (plus h 4); c = o.c }

abbrev pub with_label : How → Bool → ℕ → ℕ → Op → Op
with_label Unknown third v h o = o
with_label Origin third v h o = o
with_label Plain third v h o = o
with_label Branch third v h o = with_a (plus o.a (ahead v h / 2 % 256)) o
with_label Sob third v h o = with_a (plus o.a (behind v h / 2 % 64)) o
with_label Relative third v h o = with_offset third v h o
