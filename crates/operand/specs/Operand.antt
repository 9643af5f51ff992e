-- Operands: the eight addressing modes of the manual's chapter 2, and what is read from and written to a place.
use Rattle.std.specs.Prelude.{ℕ, ◌%◌, [], ◌∷◌, cond, eqb, ltb, get_or}
use Rattle.arith.specs.Ops.{with_low}
use Rattle.board.specs.Work.{Work, give, read_at, load, Size, word, byte, ◌>>=◌, ◌>>◌}
use Rattle.board.specs.Work as Work
use Rattle.state.specs.declared.State.{State}
use Rattle.state.specs.State.{reg, with_reg}
use Rattle.wordmath.specs.Address.{plus, minus}
use Rattle.operand.specs.declared.Place.{Place}
use Rattle.operand.specs.declared.Place.TheVariants.{Reg, Mem}

-- An increment or decrement is 2, but 1 for a byte unless the register is SP or PC.
abbrev pub increment_of : Size → ℕ → ℕ
increment_of word k = 2
increment_of byte k = cond (ltb k 6) 1 2

-- With PC, modes 6 and 7 add the PC that stands after their offset.
abbrev pub index_base : ℕ → ℕ → ℕ → ℕ
index_base k r pc = cond (eqb k 7) (plus pc 2) r

-- the word at this address is the address of the operand; the register `which` moves to v
unfoldable pub deferred : ℕ → ℕ → ℕ → Work Place
deferred at which v = do
  a ← load at
  give (Mem a which v)

-- Where the operand of a mode and a register k stands: in the register, or `Mem a which v`, at the address a, with the register `which` moved to v.
-- r is what the register holds, pc the PC.
module _ (step k r pc : ℕ) where
  -- REG: the register is the operand
  abbrev pub direct : Work Place
  direct = give Reg

  -- @REG: the register contains the address
  abbrev pub indirect : Work Place
  indirect = give (Mem r k r)

  -- (REG)+: and is post-incremented
  abbrev pub increment : Work Place
  increment = give (Mem r k (plus r step))

  -- @(REG)+: the register contains the address of the address, and is post-incremented by 2
  unfoldable pub increment_deferred : Work Place
  increment_deferred = deferred r k (plus r 2)

  -- -(REG): the register is predecremented and then contains the address
  abbrev pub decrement : Work Place
  decrement = give (Mem (minus r step) k (minus r step))

  -- @-(REG): predecremented by 2, it contains the address of the address
  unfoldable pub decrement_deferred : Work Place
  decrement_deferred = deferred (minus r 2) k (minus r 2)

  -- X(REG): the register plus the next word is the address
  unfoldable pub indexed : Work Place
  indexed = do
    x ← load pc
    give (Mem (plus (index_base k r pc) x) 7 (plus pc 2))

  -- @X(REG): the register plus the next word is the address of the address
  unfoldable pub indexed_deferred : Work Place
  indexed_deferred = do
    x ← load pc
    deferred (plus (index_base k r pc) x) 7 (plus pc 2)

  -- modes 0 to 7
  unfoldable pub locate : ℕ → Work Place
  locate mode =
      get_or (direct ∷ indirect ∷ increment ∷ increment_deferred ∷ decrement ∷ decrement_deferred ∷ indexed ∷ []) mode indexed_deferred

-- the state with the register moved
unfoldable pub moved : State → Place → State
moved s Reg = s
moved s (Mem a which v) = with_reg s which v

-- a decoded operand: the state after decoding, its register, its place
pub record Decoded : Type 0 where
  pub state : State
  pub register : ℕ
  pub place : Place

abbrev pub decoded_to : State → ℕ → Place → Decoded
decoded_to s k p = record { state = s; register = k; place = p }

unfoldable pub decode : Size → State → ℕ → ℕ → Work Decoded
decode z s mode k = do
  p ← locate (increment_of z k) k (reg s k) s.regs.pc mode
  give (decoded_to (moved s p) k p)

-- what of a register is the operand: all of it, or its lower byte
abbrev pub part_of : Size → ℕ → ℕ
part_of word r = r
part_of byte r = r % 256

unfoldable pub read_of : Size → ℕ → Place → Work ℕ
read_of z r Reg = give (part_of z r)
read_of z r (Mem a which v) = read_at z a (λ v. give v)

-- the operand read; the register is the one after decoding
abbrev pub value : Size → Decoded → Work ℕ
value z o = read_of z (reg o.state o.register) o.place

-- the register k with an operand in it
abbrev pub with_part : Size → State → ℕ → ℕ → State
with_part word s k v = with_reg s k v
with_part byte s k v = with_reg s k (with_low (reg s k) (v % 256))

-- v written to the place; a byte in a register leaves the upper byte
unfoldable pub write_to : Size → State → ℕ → Place → ℕ → Work State
write_to z s k Reg v = give (with_part z s k v)
write_to z s k (Mem a which w) v = do
  Work.write z a v
  give s
