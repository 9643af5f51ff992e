-- Format 2, 0010 to 002F: a register k; and format 3, 0030 to 003F.
use Rattle.std.specs.Prelude.{ℕ, List, [], ◌∷◌, get_or}
use Rattle.opcodes.specs.Fields.{format2_code, only_register}
use Rattle.wordmath.specs.Status.{flags_of}
use Rattle.board.specs.Work.{Work, give, load, ◌>>=◌, ◌>>◌}
use Rattle.board.specs.Work as Work
use Rattle.state.specs.declared.State.{State}
use Rattle.state.specs.declared.Outside.{Outside}
use Rattle.state.specs.State.{reg, with_reg, with_sp, with_pc, with_flags}
use Rattle.wordmath.specs.Address.{plus, minus, twice}
use Rattle.state.specs.Stack.{pop_reg}

-- the acknowledge code that IAK reads
abbrev pub acknowledge : Outside → ℕ
acknowledge out = twice out.device

-- IAK: it is placed in REG
abbrev pub iak : Outside → State → ℕ → State
iak out s k = with_reg s k (acknowledge out)

-- RTN: PC ← REG; REG ← @SP, SP ↑
unfoldable pub rtn : State → ℕ → Work State
rtn s k = pop_reg (with_pc s (reg s k)) k

-- MSKO: (loc 2E) ← REG
unfoldable pub msko : State → ℕ → Work State
msko s k = do
  Work.store 0x2e (reg s k)
  give s

-- PRTN: TMP ← @SP; SP ← SP + TMP * 2; RTN REG
unfoldable pub prtn : State → ℕ → Work State
prtn s k = do
  tmp ← load s.regs.sp
  rtn (with_sp s (plus s.regs.sp (twice tmp))) k

abbrev pub codes2 : Outside → State → ℕ → List (Work State)
codes2 out s k
    = give (iak out s k)  -- 0010 IAK
    ∷ rtn s k  -- 0018 RTN
    ∷ msko s k  -- 0020 MSKO
    ∷ prtn s k  -- 0028 PRTN
    ∷ []

-- OPC is 2 to 5
unfoldable pub format2 : Outside → State → ℕ → Work State
format2 out s op = get_or (codes2 out s (only_register op)) (minus (format2_code op) 2) (prtn s (only_register op))

-- LCC: N Z V C from bits 3 to 0 of the op code
abbrev pub lcc : State → ℕ → State
lcc s op = with_flags s (flags_of op)
