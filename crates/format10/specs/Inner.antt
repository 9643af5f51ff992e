-- The code's own words: an op code of format 10 from its source on, which is read already.
use Rattle.std.specs.Prelude.{ℕ}
use Rattle.opcodes.specs.declared.Binary.{Binary}
use Rattle.opcodes.specs.declared.ByteBinary.{ByteBinary}
use Rattle.arith.specs.Binary.{binary_of, byte_binary_of}
use Rattle.opcodes.specs.Fields.{destination_register}
use Rattle.board.specs.Work.{Work, Size, word, byte, ◌>>=◌}
use Rattle.state.specs.declared.State.{State}
use Rattle.operand.specs.declared.Place.{Place}
use Rattle.operand.specs.Destination.{destination}
use Rattle.wordmath.specs.declared.Flags.{Flags}
use Rattle.wordmath.specs.declared.Done.{Done}
use Rattle.format10.specs.Format10.{settle, settle_byte, settled}

-- `on_operands` from the source x on
unfoldable pub onto : Size → (ℕ → ℕ → Flags → Done) → (State → ℕ → Place → ℕ → Work State) → State → ℕ → ℕ → Work State
onto z result settle s op x = do
  to ← destination z s op
  settled settle to.state (destination_register op) to.place (result x to.operand to.state.flags)

-- on words, and on bytes
abbrev pub onto_words : Binary → State → ℕ → ℕ → Work State
onto_words b = onto word (binary_of b) (settle b)

abbrev pub onto_bytes : ByteBinary → State → ℕ → ℕ → Work State
onto_bytes b = onto byte (byte_binary_of b) (settle_byte b)
