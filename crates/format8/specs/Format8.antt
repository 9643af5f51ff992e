-- Format 8, 0E00 to 0FFF. One element of a block move is one step.
use Rattle.std.specs.Prelude.{ℕ, Bool, true, false, cond, List, [], ◌∷◌, eqb, get_or}
use Rattle.board.specs.Work.{Work, give, read, write, Size, size_of, ◌>>=◌, ◌>>◌}
use Rattle.opcodes.specs.Fields.{format8_code, block_source, block_destination}
use Rattle.wordmath.specs.Address.{plus, minus}
use Rattle.state.specs.declared.State.{State}
use Rattle.state.specs.State.{reg, with_reg, with_pc}
use Rattle.format8.specs.declared.BlockMove.{BlockMove}

-- ---- the eight op codes: words or bytes; what is added to the source's register, and what to the destination's

abbrev pub row_from : Bool → ℕ → ℕ → BlockMove
row_from bytes i j = record { bytes = bytes; source = i; destination = j }

abbrev pub down : ℕ → ℕ
down n = minus 0 n

abbrev pub move_rows : List BlockMove
move_rows
    = row_from false 2 2  -- 0E00 MBWU
    ∷ row_from false (down 2) (down 2)  -- 0E40 MBWD
    ∷ row_from true 1 1  -- 0E80 MBBU
    ∷ row_from true (down 1) (down 1)  -- 0EC0 MBBD
    ∷ row_from false 2 0  -- 0F00 MBWA
    ∷ row_from true 1 0  -- 0F40 MBBA
    ∷ row_from false 0 2  -- 0F80 MABW
    ∷ row_from true 0 1  -- 0FC0 MABB
    ∷ []

-- by number
abbrev pub row_at : ℕ → BlockMove
row_at k = get_or move_rows k (row_from true 0 1)

-- the row of an op code
abbrev pub move_row : ℕ → BlockMove
move_row op = row_at (format8_code op)

-- ---- one element

-- the word or byte at a is moved to b
unfoldable pub transfer : Size → ℕ → ℕ → Work (Unit {0})
transfer z a b = do
  v ← read z a
  write z b v

-- REG ← REG + n
unfoldable pub onward : State → ℕ → ℕ → State
onward s k n = with_reg s k (plus (reg s k) n)

-- both registers move, the source's first; R0 ← R0 - 1
unfoldable pub registers_moved : BlockMove → State → ℕ → ℕ → State
registers_moved r s i j = onward (onward (onward s i r.source) j r.destination) 0 (down 1)

-- IF R0 is not 0, PC ← the op code's address. s is the state after the fetch, so the address is its PC less 2; t is the state after the element
unfoldable pub again : State → State → State
again s t = cond (eqb t.regs.r0 0) t (with_pc t (minus s.regs.pc 2))

-- the source register i and the destination register j contain the addresses
unfoldable pub element : BlockMove → State → ℕ → ℕ → Work State
element r s i j = do
  transfer (size_of r.bytes) (reg s i) (reg s j)
  give (again s (registers_moved r s i j))

abbrev pub format8 : State → ℕ → Work State
format8 s op = element (move_row op) s (block_source op) (block_destination op)
