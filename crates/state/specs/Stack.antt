-- The moves that op codes are made of, in the manual's words: push, pop, fetch, and the common trap.
use Rattle.std.specs.Prelude.{ℕ, false}
use Rattle.board.specs.Work.{Work, give, load, ◌>>=◌, ◌>>◌}
use Rattle.board.specs.Work as Work
use Rattle.state.specs.declared.State.{State}
use Rattle.state.specs.declared.Outside.{Outside}
use Rattle.state.specs.declared.Mode.TheVariants.{Running}
use Rattle.state.specs.State.{reg, with_reg, with_sp, with_pc, with_i2, with_mode, with_mark, with_status, ps_of}
use Rattle.wordmath.specs.Address.{plus, minus}
use Rattle.state.specs.declared.Taken.{Taken}

-- a state and a word
abbrev pub taken_word : State → ℕ → Taken
taken_word s v = record { state = s; word = v }

-- ↓ SP, @SP ← v
unfoldable pub push : State → ℕ → Work State
push s v = do
  Work.store (minus s.regs.sp 2) v
  give (with_sp s (minus s.regs.sp 2))

-- ↓ SP, @SP ← REG, which is read after SP has moved
unfoldable pub push_reg : State → ℕ → Work State
push_reg s k = do
  Work.store (minus s.regs.sp 2) (reg (with_sp s (minus s.regs.sp 2)) k)
  give (with_sp s (minus s.regs.sp 2))

-- v ← @SP, SP ↑
unfoldable pub pop : State → Work Taken
pop s = do
  v ← load s.regs.sp
  give (taken_word (with_sp s (plus s.regs.sp 2)) v)

-- REG ← @SP, SP ↑: SP moves after the register is written, so a popped SP moves on by 2
unfoldable pub pop_reg : State → ℕ → Work State
pop_reg s k = do
  v ← load s.regs.sp
  give (with_sp (with_reg s k v) (plus (with_reg s k v).regs.sp 2))

-- PS ← @SP, SP ↑
unfoldable pub pop_status : State → Work State
pop_status s = do
  p ← pop s
  give (with_status p.state p.word)

-- v ← @PC, PC + 2
unfoldable pub fetch : State → Work Taken
fetch s = do
  v ← load s.regs.pc
  give (taken_word (with_pc s (plus s.regs.pc 2)) v)

-- PC ← (loc at)
unfoldable pub from_loc : State → ℕ → Work State
from_loc s at = do
  v ← load at
  give (with_pc s v)

-- ↓ SP, @SP ← PS; ↓ SP, @SP ← PC
unfoldable pub push_both : State → ℕ → Work State
push_both s ps = do
  s ← push s ps
  push s s.regs.pc

-- ↓ PS, ↓ PC, I2 reset, the mark cleared, running, PC ← (loc at)
unfoldable pub trap : State → ℕ → ℕ → Work State
trap s ps at = do
  s ← push_both s ps
  from_loc (with_mode (with_mark (with_i2 s false) false) Running) at

-- PC ← at; PC ← PC + @PC
unfoldable pub tabled : State → ℕ → Work State
tabled s at = do
  offset ← load at
  give (with_pc s (plus at offset))

-- the trap with the PS formed now
abbrev pub trap_now : Outside → State → ℕ → Work State
trap_now out s at = trap s (ps_of out false s) at
