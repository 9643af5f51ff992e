-- THE TEXT AND THE STEP: the mnemonic that the text writes for an op code is the name of what the step executes. Every row of the text's
-- table stands beside the work that the manual gives under its name, with the number of its format; were AND and BIC exchanged in the
-- text's table, or in the step's, a row would be wrong. It holds of every word of a row, so of every op code that has a name.
use Rattle.std.specs.Prelude.{ℕ, ◌+◌, ◌-◌, ◌<◌, Bool, true, false, cond, List, [], ◌∷◌, ◌++◌, map, ◌≡◌, eqb, leb, ltb, take, drop, get_or}
use Prim.Native.String.{String}
use Rattle.hexdigits.specs.Digits.{letters}
use Rattle.wordmath.specs.declared.Flags.{Flags}
use Rattle.wordmath.specs.declared.Done.{Done}
use Rattle.wordmath.specs.Address.{plus}
use Rattle.opcodes.specs.Fields.{high_byte, only_register, argument, register, count, destination_mode, destination_register, block_source, block_destination}
use Rattle.opcodes.specs.declared.Immediate.{Immediate}
use Rattle.opcodes.specs.declared.Immediate.TheVariants.{Addi, Subi, Bici, Movi}
use Rattle.opcodes.specs.declared.Way.{Way}
use Rattle.opcodes.specs.declared.Way.TheVariants.{RightRotate, LeftRotate, RightArith, LeftArith}
use Rattle.opcodes.specs.declared.Unary.TheVariants.{Ror, Rol, Tst, Asl, Set, Clr, Asr, Swap, Com, Neg, Inc, Dec}
use Rattle.opcodes.specs.declared.Binary.TheVariants.{Add, Sub, And, Bic, Bis, Xor, Cmp, Bit, Mov}
use Rattle.opcodes.specs.declared.ByteBinary.TheVariants.{Cmpb, Movb, Bisb}
use Rattle.arith.specs.Immediate.{immediate_of}
use Rattle.shift.specs.Shifted.{single_of, double_of, preset}
use Rattle.unary.specs.Ops.{iw2_of, sxt_of, adc_of, sbc_of}
use Rattle.unary.specs.Unary.{unary_of}
use Rattle.plate.specs.Plate.{format_of}
use Rattle.board.specs.Work.{Work, give, Size, word, byte, ◌>>=◌}
use Rattle.state.specs.declared.State.{State}
use Rattle.state.specs.declared.Outside.{Outside}
use Rattle.state.specs.State.{reg, next, with_pc, with_flags, with_done, with_pair}
use Rattle.operand.specs.Operand.{write_to}
use Rattle.operand.specs.Destination.{destination}
use Rattle.format1.specs.Format1.{nop, ien, ids, halt, bpt, wfi, rsvc, rrtt, save, savs, rest, rrtn, rsts, rtt}
use Rattle.formats2to4.specs.Format2.{iak, rtn, msko, prtn, lcc}
use Rattle.formats2to4.specs.Format4.{svca, svc}
use Rattle.formats5to6.specs.Format5.{displacement}
use Rattle.format7.specs.Format7.{tcall, tjmp, lsts, ssts}
use Rattle.format8.specs.Format8.{down, row_from, element}
use Rattle.format9.specs.Format9.{jsr, lea, ash, sob, xch, ashc, mul, div}
use Rattle.format10.specs.Format10.{on_words, on_bytes}
use Rattle.optext.specs.Rows.{Row, rows, the_row, name_of}
use Rattle.optext.specs.Line.{field_of, is_reserved, row_of}
use Rattle.step.specs.Execute.{execute}
use Rattle.step.specs.Xct.{begin_xct, begun}
use Rattle.laws.specs.Branches.{Line, lines}

-- ---- what stands under a name: the number of its format, and what its op code does

pub record Named : Type 0 where
  pub name : String
  pub format : ℕ
  pub does : Outside → State → ℕ → Work State

abbrev pub named : String → ℕ → (Outside → State → ℕ → Work State) → Named
named name format does = record { name = name; format = format; does = does }

abbrev pub no_name : Named
no_name = named "" 0 (λ out s op. give s)

-- format 5: IF the printed line says so, PC ← PC + (DISP * 2)
abbrev branch_of : Line → Named
branch_of l = named l.name 5 (λ out s op. give (cond (l.when s.flags) (with_pc s (plus s.regs.pc (displacement op))) s))

-- format 6: REG, or REG+1:REG, and the number or count
abbrev immediate_by : Immediate → Outside → State → ℕ → Work State
immediate_by i out s op = give (with_done s (register op) (immediate_of i (count op) (reg s (register op)) s.flags))

abbrev single_by : Way → Outside → State → ℕ → Work State
single_by way out s op = give (with_done s (register op) (single_of way (count op) (reg s (register op)) s.flags))

abbrev double_by : Way → Outside → State → ℕ → Work State
double_by way out s op = give (with_pair s (register op) (double_of way (count op) (reg s (register op)) (reg s (next (register op))) s.flags))

-- format 7: the result of (DST), written back; and one of which only the indicators are kept
abbrev modified : Size → (Bool → ℕ → Flags → Done) → Outside → State → ℕ → Work State
modified z result out s op = do
  o ← destination z s op
  write_to z (with_flags o.state (result (eqb (destination_mode op) 0) o.operand o.state.flags).flags) (destination_register op) o.place (result (eqb (destination_mode op) 0) o.operand o.state.flags).value

abbrev pub tested : Size → (Bool → ℕ → Flags → Done) → Outside → State → ℕ → Work State
tested z result out s op = do
  o ← destination z s op
  give (with_flags o.state (result (eqb (destination_mode op) 0) o.operand o.state.flags).flags)

-- format 8: words or bytes, and by what the two registers move
abbrev pub move_named : Bool → ℕ → ℕ → Outside → State → ℕ → Work State
move_named bytes i j out s op = element (row_from bytes i j) s (block_source op) (block_destination op)

-- ---- the mnemonics in the order of the manual's chapter 3

abbrev pub low_names : List Named
low_names
    = named "NOP" 1 (λ out s op. give (nop s))
    ∷ named "RESET" 1 (λ out s op. give (nop s))
    ∷ named "IEN" 1 (λ out s op. give (ien s))
    ∷ named "IDS" 1 (λ out s op. give (ids s))
    ∷ named "HALT" 1 (λ out s op. give (halt out s))
    ∷ named "BPT" 1 (λ out s op. bpt out s)
    ∷ named "WFI" 1 (λ out s op. give (wfi s))
    ∷ named "RSVC" 1 (λ out s op. rsvc s)
    ∷ named "RRTT" 1 (λ out s op. rrtt s)
    ∷ named "SAVE" 1 (λ out s op. save s)
    ∷ named "SAVS" 1 (λ out s op. savs s)
    ∷ named "REST" 1 (λ out s op. rest s)
    ∷ named "RRTN" 1 (λ out s op. rrtn s)
    ∷ named "RSTS" 1 (λ out s op. rsts s)
    ∷ named "RTT" 1 (λ out s op. rtt s)
    ∷ named "IAK" 2 (λ out s op. give (iak out s (only_register op)))
    ∷ named "RTN" 2 (λ out s op. rtn s (only_register op))
    ∷ named "MSKO" 2 (λ out s op. msko s (only_register op))
    ∷ named "PRTN" 2 (λ out s op. prtn s (only_register op))
    ∷ named "LCC" 3 (λ out s op. give (lcc s op))
    ∷ named "SVCA" 4 (λ out s op. svca out s (argument op))
    ∷ named "SVCB" 4 (λ out s op. svc out s (argument op) 0x24)
    ∷ named "SVCC" 4 (λ out s op. svc out s (argument op) 0x26)
    ∷ []

abbrev pub higher_codes : List Named
higher_codes
    = named "ADDI" 6 (immediate_by Addi)
    ∷ named "SUBI" 6 (immediate_by Subi)
    ∷ named "BICI" 6 (immediate_by Bici)
    ∷ named "MOVI" 6 (immediate_by Movi)
    ∷ named "SSRR" 6 (single_by RightRotate)
    ∷ named "SSLR" 6 (single_by LeftRotate)
    ∷ named "SSRA" 6 (single_by RightArith)
    ∷ named "SSLA" 6 (single_by LeftArith)
    ∷ named "SDRR" 6 (double_by RightRotate)
    ∷ named "SDLR" 6 (double_by LeftRotate)
    ∷ named "SDRA" 6 (double_by RightArith)
    ∷ named "SDLA" 6 (double_by LeftArith)
    ∷ named "ROR" 7 (modified word (unary_of 16 Ror))
    ∷ named "ROL" 7 (modified word (unary_of 16 Rol))
    ∷ named "TST" 7 (tested word (unary_of 16 Tst))
    ∷ named "ASL" 7 (modified word (unary_of 16 Asl))
    ∷ named "SET" 7 (modified word (unary_of 16 Set))
    ∷ named "CLR" 7 (modified word (unary_of 16 Clr))
    ∷ named "ASR" 7 (modified word (unary_of 16 Asr))
    ∷ named "SWAB" 7 (modified word (unary_of 16 Swap))
    ∷ named "COM" 7 (modified word (unary_of 16 Com))
    ∷ named "NEG" 7 (modified word (unary_of 16 Neg))
    ∷ named "INC" 7 (modified word (unary_of 16 Inc))
    ∷ named "DEC" 7 (modified word (unary_of 16 Dec))
    ∷ named "IW2" 7 (modified word (λ in_register d f. iw2_of d))
    ∷ named "SXT" 7 (modified word (λ in_register d f. sxt_of f))
    ∷ named "TCALL" 7 (λ out s op. tcall s op)
    ∷ named "TJMP" 7 (λ out s op. tjmp s op)
    ∷ named "RORB" 7 (modified byte (unary_of 8 Ror))
    ∷ named "ROLB" 7 (modified byte (unary_of 8 Rol))
    ∷ named "TSTB" 7 (tested byte (unary_of 8 Tst))
    ∷ named "ASLB" 7 (modified byte (unary_of 8 Asl))
    ∷ named "SETB" 7 (modified byte (unary_of 8 Set))
    ∷ named "CLRB" 7 (modified byte (unary_of 8 Clr))
    ∷ named "ASRB" 7 (modified byte (unary_of 8 Asr))
    ∷ named "SWAD" 7 (modified byte (unary_of 8 Swap))
    ∷ named "COMB" 7 (modified byte (unary_of 8 Com))
    ∷ named "NEGB" 7 (modified byte (unary_of 8 Neg))
    ∷ named "INCB" 7 (modified byte (unary_of 8 Inc))
    ∷ named "DECB" 7 (modified byte (unary_of 8 Dec))
    ∷ named "LSTS" 7 (λ out s op. lsts s op)
    ∷ named "SSTS" 7 (ssts)
    ∷ named "ADC" 7 (modified word (λ in_register d f. adc_of d f))
    ∷ named "SBC" 7 (modified word (λ in_register d f. sbc_of d f))
    ∷ named "MBWU" 8 (move_named false 2 2)
    ∷ named "MBWD" 8 (move_named false (down 2) (down 2))
    ∷ named "MBBU" 8 (move_named true 1 1)
    ∷ named "MBBD" 8 (move_named true (down 1) (down 1))
    ∷ named "MBWA" 8 (move_named false 2 0)
    ∷ named "MBBA" 8 (move_named true 1 0)
    ∷ named "MABW" 8 (move_named false 0 2)
    ∷ named "MABB" 8 (move_named true 0 1)
    ∷ named "JSR" 9 (λ out s op. jsr out (with_flags s preset) op)
    ∷ named "LEA" 9 (λ out s op. lea out (with_flags s preset) op)
    ∷ named "ASH" 9 (λ out s op. ash (with_flags s preset) op)
    ∷ named "SOB" 9 (λ out s op. give (sob s op))
    ∷ named "XCH" 9 (λ out s op. xch (with_flags s preset) op)
    ∷ named "ASHC" 9 (λ out s op. ashc (with_flags s preset) op)
    ∷ named "MUL" 9 (λ out s op. mul (with_flags s preset) op)
    ∷ named "DIV" 9 (λ out s op. div (with_flags s preset) op)
    ∷ named "ADD" 10 (λ out s op. on_words Add s op)
    ∷ named "SUB" 10 (λ out s op. on_words Sub s op)
    ∷ named "AND" 10 (λ out s op. on_words And s op)
    ∷ named "BIC" 10 (λ out s op. on_words Bic s op)
    ∷ named "BIS" 10 (λ out s op. on_words Bis s op)
    ∷ named "XOR" 10 (λ out s op. on_words Xor s op)
    ∷ named "CMP" 10 (λ out s op. on_words Cmp s op)
    ∷ named "BIT" 10 (λ out s op. on_words Bit s op)
    ∷ named "MOV" 10 (λ out s op. on_words Mov s op)
    ∷ named "CMPB" 10 (λ out s op. on_bytes Cmpb s op)
    ∷ named "MOVB" 10 (λ out s op. on_bytes Movb s op)
    ∷ named "BISB" 10 (λ out s op. on_bytes Bisb s op)
    ∷ []

abbrev pub mnemonics : List Named
mnemonics = low_names ++ (map branch_of lines ++ higher_codes)

-- ---- the rows of the text, beside them

-- all but XCT, the sixth, which is begun and never executed itself (below), and .WORD, the last, which is no op code
unfoldable pub executed_rows : List Row
executed_rows = take 5 rows ++ drop 6 (take 111 rows)

-- the plate has formats 1 to 4, of the high byte 00, as 1
abbrev plate_of : ℕ → ℕ
plate_of format = cond (leb format 4) 1 format

-- a word of a row: its base with the operands' bits in it, as the text has it (optext Line `fits_row`)
abbrev pub In : Row → ℕ → Type 0
In r op = r.base + field_of r.first op + field_of r.second op ≡ op

-- an op code executed under a name: the format that the plate has for it, and the step's work
abbrev Executed : Outside → State → ℕ → Named → Type 0
Executed out s op n = (format_of (high_byte op) ≡ plate_of n.format) × (execute out s op ≡ n.does out s op)

-- the same name, and every word of the row is executed under it
abbrev pub As : Outside → State → Row → Named → Type 0
As out s r n = (r.name ≡ letters n.name) × ((op : ℕ) → In r op → Executed out s op n)

-- one beside the other, none left over
unfoldable pub Beside : Outside → State → List Row → List Named → Type 0
Beside out s [] [] = Unit {0}
Beside out s [] (n ∷ ns) = ⊥
Beside out s (r ∷ rs) [] = ⊥
Beside out s (r ∷ rs) (n ∷ ns) = As out s r n × Beside out s rs ns

-- where the third microm is fitted; without it format 8 is reserved (step Block `unfitted`)
abbrev pub NamesExecuted : Type 0
NamesExecuted = (out : Outside) (s : State) → out.settings.blocks ≡ true → Beside out s executed_rows mnemonics

-- of every op code: the name that its text begins with (optext Line `op_text`) is the one that it is executed under. XCT is told below,
-- and reserved words have no name
abbrev pub row_place : ℕ → ℕ
row_place row = cond (ltb row 5) row (row - 1)

abbrev pub TextExecuted : Type 0
TextExecuted = (out : Outside) (s : State) (op : ℕ) → out.settings.blocks ≡ true → op < 65536 → is_reserved op ≡ false → (op ≡ 5 → ⊥)
    → (let n = get_or mnemonics (row_place (row_of op)) no_name in (name_of (row_of op) ≡ letters n.name) × Executed out s op n)

abbrev pub XctNamed : Type 0
XctNamed = (name_of 5 ≡ letters "XCT") × ((op : ℕ) → In (the_row 5) op → (out : Outside) (s : State) → begun out s op ≡ begin_xct out s)
