-- The table of op codes: a row for each, with its mnemonic, its base op code and its operands, in the order of the manual's chapter 3.
use Rattle.std.specs.Prelude.{ℕ, ◌+◌, ◌-◌, cond, List, [], ◌∷◌, ◌++◌, ◌==◌, slice_index_or}
use Prim.Native.Char.{code}
use Prim.Native.String.{String}
use Rattle.optext.specs.declared.rows.OperandKind.{OperandKind}
use Rattle.optext.specs.declared.rows.OperandKind.TheVariants.{None, Mask, Disp, Reg, Arg4, Arg6, Count, High, Mid, Dst, Addr, Src, Word}
use Rattle.hexdigits.specs.Digits.{letters, hex4}

-- the operands are in the order of the manual's FORMAT
pub record Row : Type 0 where
  pub name : List ℕ
  pub base : ℕ
  pub first : OperandKind
  pub second : OperandKind

-- rows with the same operands, whose base op codes begin at b and are d apart
abbrev pub rows_from : ℕ → ℕ → OperandKind → OperandKind → List String → List Row
rows_from b d f s [] = []
rows_from b d f s (n ∷ ns) = record { name = letters n; base = b; first = f; second = s } ∷ rows_from (b + d) d f s ns

abbrev pub row_count : ℕ
row_count = 112

-- the last row, for a word that no other row makes
abbrev pub word_row : ℕ
word_row = row_count - 1

unfoldable pub rows : List Row
rows =
    -- Format 1: no operand; SAVS has its mask in the next word.
    rows_from 0x0000 1 None None ("NOP" ∷ "RESET" ∷ "IEN" ∷ "IDS" ∷ "HALT" ∷ "XCT" ∷ "BPT" ∷ "WFI" ∷ "RSVC" ∷ "RRTT" ∷ "SAVE" ∷ [])
    ++ rows_from 0x000B 1 Mask None ("SAVS" ∷ [])
    ++ rows_from 0x000C 1 None None ("REST" ∷ "RRTN" ∷ "RSTS" ∷ "RTT" ∷ [])
    -- Format 2: REG.
    ++ rows_from 0x0010 0x8 Reg None ("IAK" ∷ "RTN" ∷ "MSKO" ∷ "PRTN" ∷ [])
    -- Format 3: ARG, one digit.
    ++ rows_from 0x0030 0x10 Arg4 None ("LCC" ∷ [])
    -- Format 4: ARG, two digits.
    ++ rows_from 0x0040 0x40 Arg6 None ("SVCA" ∷ "SVCB" ∷ "SVCC" ∷ [])
    -- Format 5: the displacement.
    ++ rows_from 0x0100 0x100 Disp None ("BR" ∷ "BNE" ∷ "BEQ" ∷ "BGE" ∷ "BLT" ∷ "BGT" ∷ "BLE" ∷ [])
    ++ rows_from 0x8000 0x100 Disp None ("BPL" ∷ "BMI" ∷ "BHI" ∷ "BLOS" ∷ "BVC" ∷ "BVS" ∷ "BCC" ∷ "BCS" ∷ [])
    -- Format 6: NUMBER,REG and REG,COUNT.
    ++ rows_from 0x0800 0x10 Count High ("ADDI" ∷ "SUBI" ∷ "BICI" ∷ "MOVI" ∷ [])
    ++ rows_from 0x8800 0x10 High Count ("SSRR" ∷ "SSLR" ∷ "SSRA" ∷ "SSLA" ∷ [])
    ++ rows_from 0x8E00 0x10 High Count ("SDRR" ∷ "SDLR" ∷ "SDRA" ∷ "SDLA" ∷ [])
    -- Format 7: DST.
    ++ rows_from 0x0A00 0x40 Dst None ("ROR" ∷ "ROL" ∷ "TST" ∷ "ASL" ∷ [])
    ++ rows_from 0x0B00 0x40 Dst None ("SET" ∷ "CLR" ∷ "ASR" ∷ "SWAB" ∷ [])
    ++ rows_from 0x0C00 0x40 Dst None ("COM" ∷ "NEG" ∷ "INC" ∷ "DEC" ∷ [])
    ++ rows_from 0x0D00 0x40 Dst None ("IW2" ∷ "SXT" ∷ "TCALL" ∷ "TJMP" ∷ [])
    ++ rows_from 0x8A00 0x40 Dst None ("RORB" ∷ "ROLB" ∷ "TSTB" ∷ "ASLB" ∷ [])
    ++ rows_from 0x8B00 0x40 Dst None ("SETB" ∷ "CLRB" ∷ "ASRB" ∷ "SWAD" ∷ [])
    ++ rows_from 0x8C00 0x40 Dst None ("COMB" ∷ "NEGB" ∷ "INCB" ∷ "DECB" ∷ [])
    ++ rows_from 0x8D00 0x40 Dst None ("LSTS" ∷ "SSTS" ∷ "ADC" ∷ "SBC" ∷ [])
    -- Format 8: the source and the destination register of a block move.
    ++ rows_from 0x0E00 0x40 Mid Reg ("MBWU" ∷ "MBWD" ∷ "MBBU" ∷ "MBBD" ∷ [])
    ++ rows_from 0x0F00 0x40 Mid Reg ("MBWA" ∷ "MBBA" ∷ "MABW" ∷ "MABB" ∷ [])
    -- Format 9: REG,DST; JSR and LEA have no mode 0; SOB has an offset.
    ++ rows_from 0x7000 0x200 High Addr ("JSR" ∷ "LEA" ∷ [])
    ++ rows_from 0x7400 0x200 High Dst ("ASH" ∷ [])
    ++ rows_from 0x7600 0x200 High Arg6 ("SOB" ∷ [])
    ++ rows_from 0x7800 0x200 High Dst ("XCH" ∷ "ASHC" ∷ "MUL" ∷ "DIV" ∷ [])
    -- Format 10: SRC,DST.
    ++ rows_from 0x1000 0x1000 Src Dst ("ADD" ∷ "SUB" ∷ "AND" ∷ "BIC" ∷ "BIS" ∷ "XOR" ∷ [])
    ++ rows_from 0x9000 0x1000 Src Dst ("CMP" ∷ "BIT" ∷ "MOV" ∷ "CMPB" ∷ "MOVB" ∷ "BISB" ∷ [])
    -- Any other word.
    ++ rows_from 0x0000 1 Word None (".WORD" ∷ [])

abbrev pub no_row : Row
no_row = record { name = []; base = 0; first = None; second = None }

unfoldable pub the_row : ℕ → Row
the_row k = slice_index_or rows k no_row

abbrev pub name_of : ℕ → List ℕ
name_of k = (the_row k).name

abbrev pub base_of : ℕ → ℕ
base_of k = (the_row k).base

abbrev pub first_of : ℕ → OperandKind
first_of k = (the_row k).first

abbrev pub second_of : ℕ → OperandKind
second_of k = (the_row k).second

-- where an operand stands in the first word: in the bits from the one that is worth `unit` on, as a number below `size`
pub record OperandPlace : Type 0 where
  pub unit : ℕ
  pub size : ℕ

abbrev pub place : ℕ → ℕ → OperandPlace
place u n = record { unit = u; size = n }

abbrev pub place_of : OperandKind → OperandPlace
place_of None = place 1 1
place_of Mask = place 1 1
place_of Disp = place 1 256
place_of Reg = place 1 8
place_of Arg4 = place 1 16
place_of Arg6 = place 1 64
place_of Count = place 1 16
place_of High = place 64 8
place_of Mid = place 8 8
place_of Dst = place 1 64
place_of Addr = place 1 64
place_of Src = place 64 64
place_of Word = place 1 65536

-- the rows as the program has them, each in as many bytes
abbrev pub row_width : ℕ
row_width = 12

abbrev pub letter_of : OperandKind → ℕ
letter_of None = code "-"
letter_of Mask = code "M"
letter_of Disp = code "8"
letter_of Reg = code "R"
letter_of Arg4 = code "4"
letter_of Arg6 = code "6"
letter_of Count = code "N"
letter_of High = code "H"
letter_of Mid = code "B"
letter_of Dst = code "D"
letter_of Addr = code "J"
letter_of Src = code "S"
letter_of Word = code "W"

unfoldable pub kind_as : ℕ → OperandKind
kind_as c =
    cond (c == (code "M")) Mask
    (cond (c == (code "8")) Disp
    (cond (c == (code "R")) Reg
    (cond (c == (code "4")) Arg4
    (cond (c == (code "6")) Arg6
    (cond (c == (code "N")) Count
    (cond (c == (code "H")) High
    (cond (c == (code "B")) Mid
    (cond (c == (code "D")) Dst
    (cond (c == (code "J")) Addr
    (cond (c == (code "S")) Src
    (cond (c == (code "W")) Word
    None)))))))))))

abbrev pub row_bytes : Row → List ℕ
row_bytes r =
    slice_index_or r.name 0 32 ∷ slice_index_or r.name 1 32 ∷ slice_index_or r.name 2 32 ∷ slice_index_or r.name 3 32 ∷ slice_index_or r.name 4 32
    ∷ (hex4 r.base ++ (letter_of r.first ∷ letter_of r.second ∷ 32 ∷ []))
