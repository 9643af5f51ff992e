-- The writer's meaning: the line of an op code, and the words that it takes.
use Rattle.std.specs.Prelude.{ℕ, ◌+◌, ◌*◌, ◌/◌, ◌%◌, Bool, true, false, cond, List, [], ◌∷◌, ◌++◌, ◌==◌, nat_le, slice_index}
use Prim.Native.Char.{code}
use Rattle.optext.specs.declared.rows.OperandKind.{OperandKind}
use Rattle.optext.specs.declared.rows.OperandKind.TheVariants.{None, Mask, Disp, Reg, Arg4, Arg6, Count, High, Mid, Dst, Addr, Src, Word}
use Rattle.optext.specs.First.{first_from}
use Rattle.hexdigits.specs.Digits.{letters, hex_of, hex4, hex2}
use Rattle.optext.specs.Rows.{OperandPlace, place_of, word_row, base_of, first_of, second_of, name_of}

-- a register's name, R0 to R5, SP, PC
unfoldable pub registers : List ℕ
registers = letters "R0R1R2R3R4R5SPPC"

unfoldable pub reg_a : ℕ → ℕ
reg_a r = slice_index registers (r * 2)

unfoldable pub reg_b : ℕ → ℕ
reg_b r = slice_index registers (r * 2 + 1)

unfoldable pub reg_text : ℕ → List ℕ
reg_text r = reg_a r ∷ reg_b r ∷ []

-- (R1)+, with PC #1234, -(R1), 1234(R1)
unfoldable pub up_text : ℕ → List ℕ
up_text r = code "(" ∷ reg_a r ∷ reg_b r ∷ code ")" ∷ code "+" ∷ []

unfoldable pub literal_text : ℕ → List ℕ
literal_text x = code "#" ∷ hex4 x

unfoldable pub down_text : ℕ → List ℕ
down_text r = code "-" ∷ code "(" ∷ reg_a r ∷ reg_b r ∷ code ")" ∷ []

unfoldable pub offset_text : ℕ → ℕ → List ℕ
offset_text r x = hex4 x ++ (code "(" ∷ reg_a r ∷ reg_b r ∷ code ")" ∷ [])

-- the four forms without @, p = 0 to 3
unfoldable pub plain_text : ℕ → ℕ → ℕ → List ℕ
plain_text p r x =
    cond (p == 0) (reg_text r)
    (cond (p == 1) (cond (r == 7) (literal_text x) (up_text r))
    (cond (p == 2) (down_text r) (offset_text r x)))

-- the operand of a mode and a register, f = 8 * mode + register, with its next word x: an odd mode is the one before it with @ in front
unfoldable pub mode_text : ℕ → ℕ → List ℕ
mode_text f x = cond (f / 8 % 2 == 0) (plain_text (f / 16) (f % 8) x) (code "@" ∷ plain_text (f / 16) (f % 8) x)

-- the words that it takes beside the first
unfoldable pub mode_takes : ℕ → ℕ
mode_takes f = cond (f / 16 == 3) 1 (cond (f / 16 == 1) (cond (f % 8 == 7) 1 0) 0)

-- the operand of a kind in the first word w, where x is the operand's own word
abbrev pub operand_text : OperandKind → ℕ → ℕ → List ℕ
operand_text None w x = []
operand_text Mask w x = hex4 x
operand_text Disp w x = hex2 (w % 256)
operand_text Reg w x = reg_text (w % 8)
operand_text Arg4 w x = hex_of (w % 16) ∷ []
operand_text Arg6 w x = hex2 (w % 64)
operand_text Count w x = hex2 (w % 16 + 1)
operand_text High w x = reg_text (w / 64 % 8)
operand_text Mid w x = reg_text (w / 8 % 8)
operand_text Dst w x = mode_text (w % 64) x
operand_text Addr w x = mode_text (w % 64) x
operand_text Src w x = mode_text (w / 64 % 64) x
operand_text Word w x = hex4 w

abbrev pub takes : OperandKind → ℕ → ℕ
takes None w = 0
takes Mask w = 1
takes Disp w = 0
takes Reg w = 0
takes Arg4 w = 0
takes Arg6 w = 0
takes Count w = 0
takes High w = 0
takes Mid w = 0
takes Dst w = mode_takes (w % 64)
takes Addr w = mode_takes (w % 64)
takes Src w = mode_takes (w / 64 % 64)
takes Word w = 0

-- the bits of the first word w that the operand stands for
abbrev pub bits_of : OperandPlace → ℕ → ℕ
bits_of p w = cond (p.size == 1) 0 (cond (p.unit == 1) (w % p.size) (w / p.unit % p.size * p.unit))

abbrev pub field_of : OperandKind → ℕ → ℕ
field_of k w = bits_of (place_of k) w

-- reserved and illegal first words: format 11 (F0 to FF), and JSR and LEA (70 to 73) with mode 0
unfoldable pub is_reserved : ℕ → Bool
is_reserved w = cond (nat_le 240 (w / 256)) true (cond (w / 1024 == 28) (w / 8 % 8 == 0) false)

-- the row of a first word: .WORD for a reserved or illegal one, or else the row whose base op code with the operands in it is the word
abbrev pub fits_row : ℕ → ℕ → Bool
fits_row w k = base_of k + field_of (first_of k) w + field_of (second_of k) w == w

unfoldable pub row_of : ℕ → ℕ
row_of w = cond (is_reserved w) word_row (first_from (fits_row w) word_row 0)

-- the separator and the operand, if there is one
abbrev pub is_shown : OperandKind → Bool
is_shown None = false
is_shown Mask = true
is_shown Disp = true
is_shown Reg = true
is_shown Arg4 = true
is_shown Arg6 = true
is_shown Count = true
is_shown High = true
is_shown Mid = true
is_shown Dst = true
is_shown Addr = true
is_shown Src = true
is_shown Word = true

unfoldable pub sep_text : ℕ → OperandKind → ℕ → ℕ → List ℕ
sep_text s k w x = cond (is_shown k) (s ∷ operand_text k w x) []

-- the line of the first word w in the row k, where x and y are the first and the second operand's own words
abbrev pub row_text : ℕ → ℕ → ℕ → ℕ → List ℕ
row_text k w x y = (name_of k ++ sep_text (code " ") (first_of k) w x) ++ sep_text (code ",") (second_of k) w y

-- .WORD and four digits, of any word
unfoldable pub word_text : ℕ → List ℕ
word_text w = row_text word_row w 0 0

-- the line in the word's own row
unfoldable pub op_text : ℕ → ℕ → ℕ → List ℕ
op_text w x y = row_text (row_of w) w x y

-- the number of words of an op code, and the text of the op code that begins a list of words
unfoldable pub taken : ℕ → ℕ
taken w = 1 + takes (first_of (row_of w)) w + takes (second_of (row_of w)) w

unfoldable pub text_of : List ℕ → List ℕ
text_of ws = op_text (slice_index ws 0) (slice_index ws 1) (slice_index ws (1 + takes (first_of (row_of (slice_index ws 0))) (slice_index ws 0)))
