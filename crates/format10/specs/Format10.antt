-- Format 10, 1000 to 6FFF and 9000 to EFFF: two operands. The source is decoded and read in full before the destination is decoded.
use Rattle.std.specs.Prelude.{ℕ, ◌%◌, Bool, true, false, cond, ltb}
use Rattle.opcodes.specs.declared.Binary.{Binary}
use Rattle.opcodes.specs.declared.Binary.TheVariants.{Add, Sub, And, Bic, Bis, Xor, Cmp, Bit, Mov}
use Rattle.opcodes.specs.declared.ByteBinary.{ByteBinary}
use Rattle.opcodes.specs.declared.ByteBinary.TheVariants.{Cmpb, Movb, Bisb}
use Rattle.arith.specs.Binary.{binary_of, byte_binary_of}
use Rattle.opcodes.specs.Codes.{binary_at, byte_binary_at}
use Rattle.opcodes.specs.Fields.{high_digit, source_mode, source_register, destination_register}
use Rattle.arith.specs.Ops.{extended}
use Rattle.board.specs.Work.{Work, give, Size, word, byte, ◌>>=◌}
use Rattle.state.specs.declared.State.{State}
use Rattle.state.specs.State.{with_reg, with_flags}
use Rattle.wordmath.specs.Address.{plus, minus}
use Rattle.operand.specs.declared.Place.{Place}
use Rattle.operand.specs.declared.Place.TheVariants.{Reg, Mem}
use Rattle.operand.specs.Operand.{write_to}
use Rattle.operand.specs.Destination.{operand_of, destination}
use Rattle.wordmath.specs.declared.Flags.{Flags}
use Rattle.wordmath.specs.declared.Done.{Done}

-- six from digit 1 on, ADD 1000 to XOR 6000; then, from digit 9 on, CMP 9000, BIT A000, MOV B000
abbrev pub binary_number : ℕ → ℕ
binary_number op = cond (ltb op 0x8000) (minus (high_digit op) 1) (plus 6 (minus (high_digit op) 9))

-- CMP and BIT alter neither operand
abbrev pub stores : Binary → Bool
stores Add = true
stores Sub = true
stores And = true
stores Bic = true
stores Bis = true
stores Xor = true
stores Cmp = false
stores Bit = false
stores Mov = true

-- the indicators set; `settle` decides whether and how the result is written
abbrev pub settled : (State → ℕ → Place → ℕ → Work State) → State → ℕ → Place → Done → Work State
settled settle s k p d = settle (with_flags s d.flags) k p d.value

unfoldable pub settle : Binary → State → ℕ → Place → ℕ → Work State
settle b s k p v = cond (stores b) (write_to word s k p v) (give s)

-- MOVB to a register extends the sign through bit 15
unfoldable pub move_byte : State → ℕ → Place → ℕ → Work State
move_byte s k Reg v = give (with_reg s k (extended (v % 256)))
move_byte s k (Mem a which w) v = write_to byte s k (Mem a which w) v

unfoldable pub settle_byte : ByteBinary → State → ℕ → Place → ℕ → Work State
settle_byte Cmpb s k p v = give s
settle_byte Movb s k p v = move_byte s k p v
settle_byte Bisb s k p v = write_to byte s k p v

-- (DST) ← the result of (SRC) and (DST); the indicators
unfoldable pub on_operands : Size → (ℕ → ℕ → Flags → Done) → (State → ℕ → Place → ℕ → Work State) → State → ℕ → Work State
on_operands z result settle s op = do
  from ← operand_of z s (source_mode op) (source_register op)
  to ← destination z from.state op
  settled settle to.state (destination_register op) to.place (result from.operand to.operand to.state.flags)

-- on words, and on bytes
abbrev pub on_words : Binary → State → ℕ → Work State
on_words b = on_operands word (binary_of b) (settle b)

abbrev pub on_bytes : ByteBinary → State → ℕ → Work State
on_bytes b = on_operands byte (byte_binary_of b) (settle_byte b)

-- the op code of a number
abbrev pub binary_code : ℕ → Binary
binary_code op = binary_at (binary_number op)

abbrev pub byte_code : ℕ → ByteBinary
byte_code op = byte_binary_at (minus (high_digit op) 12)

-- CMPB C000, MOVB D000, BISB E000 on bytes, the others on words
unfoldable pub format10 : State → ℕ → Work State
format10 s op =
    cond (ltb op 0xc000) (on_words (binary_code op) s op) (on_bytes (byte_code op) s op)
