-- A decoded operand and its value, for the op codes that read one.
use Rattle.std.specs.Prelude.{ℕ}
use Rattle.opcodes.specs.Fields.{destination_mode, destination_register}
use Rattle.board.specs.Work.{Work, give, Size, ◌>>=◌}
use Rattle.state.specs.declared.State.{State}
use Rattle.operand.specs.declared.Place.{Place}
use Rattle.operand.specs.Operand.{decode, value}
use Rattle.operand.specs.declared.Held.{Held}

-- the state after decoding, the operand's place, and its value
abbrev pub holding : State → Place → ℕ → Held
holding s p v = record { state = s; place = p; operand = v }

-- an operand decoded and read
unfoldable pub operand_of : Size → State → ℕ → ℕ → Work Held
operand_of z s mode k = do
  to ← decode z s mode k
  v ← value z to
  give (holding to.state to.place v)

-- DST
abbrev pub destination : Size → State → ℕ → Work Held
destination z s op = operand_of z s (destination_mode op) (destination_register op)
