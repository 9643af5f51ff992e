-- Format 7, 0A00 to 0DFF and 8A00 to 8DFF: one operand.
use Rattle.std.specs.Prelude.{ℕ, ◌/◌, ◌%◌, Bool, false, cond, List, [], ◌∷◌, eqb, ltb, get_or}
use Rattle.wordmath.specs.declared.Flags.{Flags}
use Rattle.wordmath.specs.declared.Done.{Done}
use Rattle.opcodes.specs.declared.Unary.{Unary}
use Rattle.opcodes.specs.declared.Unary.TheVariants.{Ror, Rol, Tst, Asl, Set, Clr, Asr, Swap, Com, Neg, Inc, Dec}
use Rattle.unary.specs.Ops.{iw2_of, sxt_of, adc_of, sbc_of}
use Rattle.unary.specs.Unary.{unary_of}
use Rattle.opcodes.specs.Fields.{destination_mode, destination_register}
use Rattle.board.specs.Work.{Work, give, Size, word, byte, ◌>>=◌}
use Rattle.state.specs.declared.State.{State}
use Rattle.state.specs.declared.Outside.{Outside}
use Rattle.state.specs.State.{with_flags, with_status, ps_of}
use Rattle.wordmath.specs.Address.{plus, minus}
use Rattle.state.specs.Stack.{push, tabled}
use Rattle.operand.specs.declared.Place.{Place}
use Rattle.operand.specs.Operand.{write_to}
use Rattle.operand.specs.Destination.{destination}

-- the operand is in a register: mode 0
abbrev pub in_register : ℕ → Bool
in_register op = eqb (destination_mode op) 0

-- the result of an op code that both columns have: on words, and on bytes
abbrev result_of : Size → Unary → ℕ → ℕ → Flags → Done
result_of word u op = unary_of 16 u (in_register op)
result_of byte u op = unary_of 8 u (in_register op)

-- the indicators set, and the result stored
abbrev result_stored : Size → ℕ → State → Place → Done → Work State
result_stored z op s p d = write_to z (with_flags s d.flags) (destination_register op) p d.value

-- (DST) ← its result; the indicators
unfoldable pub modify : Size → (ℕ → Flags → Done) → State → ℕ → Work State
modify z result s op = do
  o ← destination z s op
  result_stored z op o.state o.place (result o.operand o.state.flags)

abbrev pub on : Size → Unary → State → ℕ → Work State
on z u s op = modify z (result_of z u op) s op

-- TST, TSTB: the indicators; nothing is written
unfoldable pub test : Size → State → ℕ → Work State
test z s op = do
  o ← destination z s op
  give (with_flags o.state (result_of z Tst op o.operand o.state.flags).flags)

-- TCALL: ↓ SP, @SP ← PC; PC ← PC + (DST); PC ← PC + @PC
unfoldable pub tcall : State → ℕ → Work State
tcall s op = do
  o ← destination word s op
  s ← push o.state o.state.regs.pc
  tabled s (plus s.regs.pc o.operand)

-- TJMP: PC ← PC + (DST); PC ← PC + @PC
unfoldable pub tjmp : State → ℕ → Work State
tjmp s op = do
  o ← destination word s op
  tabled o.state (plus o.state.regs.pc o.operand)

-- LSTS: the indicators and I2 are loaded from (DST)
unfoldable pub lsts : State → ℕ → Work State
lsts s op = do
  o ← destination word s op
  give (with_status o.state o.operand)

-- SSTS: the PS is formed and stored in (DST)
unfoldable pub ssts : Outside → State → ℕ → Work State
ssts out s op = do
  o ← destination word s op
  write_to word o.state (destination_register op) o.place (ps_of out false o.state)

-- ---- the two columns

abbrev pub column0_a : State → ℕ → List (Work State)
column0_a s op
    = on word Ror s op  -- 0A00 ROR
    ∷ on word Rol s op  -- 0A40 ROL
    ∷ test word s op  -- 0A80 TST
    ∷ on word Asl s op  -- 0AC0 ASL
    ∷ on word Set s op  -- 0B00 SET
    ∷ on word Clr s op  -- 0B40 CLR
    ∷ on word Asr s op  -- 0B80 ASR
    ∷ on word Swap s op  -- 0BC0 SWAB
    ∷ on word Com s op  -- 0C00 COM
    ∷ on word Neg s op  -- 0C40 NEG
    ∷ on word Inc s op  -- 0C80 INC
    ∷ on word Dec s op  -- 0CC0 DEC
    ∷ modify word (λ d f. iw2_of d) s op  -- 0D00 IW2
    ∷ modify word (λ d f. sxt_of f) s op  -- 0D40 SXT
    ∷ tcall s op  -- 0D80 TCALL
    ∷ tjmp s op  -- 0DC0 TJMP
    ∷ []

abbrev pub column8_a : Outside → State → ℕ → List (Work State)
column8_a out s op
    = on byte Ror s op  -- 8A00 RORB
    ∷ on byte Rol s op  -- 8A40 ROLB
    ∷ test byte s op  -- 8A80 TSTB
    ∷ on byte Asl s op  -- 8AC0 ASLB
    ∷ on byte Set s op  -- 8B00 SETB
    ∷ on byte Clr s op  -- 8B40 CLRB
    ∷ on byte Asr s op  -- 8B80 ASRB
    ∷ on byte Swap s op  -- 8BC0 SWAD
    ∷ on byte Com s op  -- 8C00 COMB
    ∷ on byte Neg s op  -- 8C40 NEGB
    ∷ on byte Inc s op  -- 8C80 INCB
    ∷ on byte Dec s op  -- 8CC0 DECB
    ∷ lsts s op  -- 8D00 LSTS
    ∷ ssts out s op  -- 8D40 SSTS
    ∷ modify word adc_of s op  -- 8D80 ADC
    ∷ modify word sbc_of s op  -- 8DC0 SBC
    ∷ []

-- the row of an op code in its column: 64 words to each
abbrev pub column_row : ℕ → ℕ
column_row op = minus (op % 0x8000) 0x0a00 / 64

-- a look-up past the last row, which no op code of the format reaches, gives that row
unfoldable pub format7 : Outside → State → ℕ → Work State
format7 out s op =
    cond (ltb op 0x8000) (get_or (column0_a s op) (column_row op) (tjmp s op)) (get_or (column8_a out s op) (column_row op) (modify word sbc_of s op))
