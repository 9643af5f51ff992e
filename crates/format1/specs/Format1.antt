-- Format 1, 0000 to 000F: one word, no arguments (SAVS has its mask in the next word).
use Rattle.std.specs.Prelude.{ℕ, true, false, not, cond, List, [], ◌∷◌, get_or}
use Rattle.std.specs.Int.Bits.{bit_or}
use Rattle.board.specs.Work.{Work, give, load, ◌>>=◌, ◌>>◌}
use Rattle.board.specs.Work as Work
use Rattle.state.specs.declared.State.{State}
use Rattle.state.specs.declared.Outside.{Outside}
use Rattle.state.specs.declared.Mode.TheVariants.{Waiting, PowerHalt, SwitchHalt}
use Rattle.state.specs.State.{with_sp, with_i2, with_mode, with_mark, ps_of}
use Rattle.wordmath.specs.Address.{plus}
use Rattle.state.specs.Stack.{push, push_reg, pop, pop_reg, pop_status, fetch, from_loc, push_both, trap_now}

-- NOP: no operations are performed. RESET: a pulse is transmitted; here nothing hears it
abbrev pub nop : State → State
nop s = s

-- IEN: I2 is set at once; where it was clear, one more op code begins before I0 and I1 are heard, and the mark says so
abbrev pub ien : State → State
ien s = with_mark (with_i2 s true) (not s.i2)

-- IDS: I2 is reset
abbrev pub ids : State → State
ids s = with_i2 s false

-- HALT: I2 is reset; the mode says what ends the halt: the end of power fail, or the halt switch
abbrev pub halt : Outside → State → State
halt out s = with_mode (with_i2 s false) (cond out.fail PowerHalt SwitchHalt)

-- XCT's error: HALT, XCT, BPT or WFI was to be executed. I2 is reset
abbrev pub xct_error : Outside → State → Work State
xct_error out s = trap_now out s 0x1e

-- BPT: ↓ PS, ↓ PC, PC ← (loc 2C); I2 is kept
unfoldable pub bpt : Outside → State → Work State
bpt out s = do
  s ← push_both s (ps_of out false s)
  from_loc s 0x2c

-- WFI: I2 is set; nothing more happens until an interrupt
abbrev pub wfi : State → State
wfi s = with_mode (with_i2 s true) Waiting

-- three registers are pushed, or popped, one after the other
unfoldable pub push_three : State → ℕ → ℕ → ℕ → Work State
push_three s i j k = do
  s ← push_reg s i
  s ← push_reg s j
  push_reg s k

unfoldable pub pop_three : State → ℕ → ℕ → ℕ → Work State
pop_three s i j k = do
  s ← pop_reg s i
  s ← pop_reg s j
  pop_reg s k

-- SAVE: R5 to R0 are pushed
unfoldable pub save : State → Work State
save s = do
  s ← push_three s 5 4 3
  push_three s 2 1 0

-- SAVS: SAVE; ↓ SP, @SP ← (loc 2E); (loc 2E) ← (loc 2E) or MASK; IEN
unfoldable pub savs : State → Work State
savs s = do
  mask ← fetch s
  s ← save mask.state
  old ← load 0x2e
  s ← push s old
  Work.store 0x2e (bit_or old mask.word)
  give (ien s)

-- REST: R0 to R5 are popped
unfoldable pub rest : State → Work State
rest s = do
  s ← pop_three s 0 1 2
  pop_three s 3 4 5

-- RTT: PC ← @SP, SP ↑; PS ← @SP, SP ↑
unfoldable pub rtt : State → Work State
rtt s = do
  s ← pop_reg s 7
  pop_status s

-- RRTN: REST; PC ← @SP, SP ↑
unfoldable pub rrtn : State → Work State
rrtn s = do
  s ← rest s
  pop_reg s 7

-- RRTT: REST; RTT
unfoldable pub rrtt : State → Work State
rrtt s = do
  s ← rest s
  rtt s

-- RSTS: (loc 2E) ← @SP, SP ↑; REST; RTT
unfoldable pub rsts : State → Work State
rsts s = do
  mask ← pop s
  Work.store 0x2e mask.word
  rrtt mask.state

-- RSVC: REST; SP ↑, the saved SP is bypassed; RTT
unfoldable pub rsvc : State → Work State
rsvc s = do
  s ← rest s
  rtt (with_sp s (plus s.regs.sp 2))

-- XCT is not executed here: it is begun before the op code that it executes (step Xct), and no op code that is executed is XCT
abbrev pub not_here : State → State
not_here s = s

abbrev pub codes1 : Outside → State → List (Work State)
codes1 out s
    = give (nop s)  -- 0000 NOP
    ∷ give (nop s)  -- 0001 RESET
    ∷ give (ien s)  -- 0002 IEN
    ∷ give (ids s)  -- 0003 IDS
    ∷ give (halt out s)  -- 0004 HALT
    ∷ give (not_here s)  -- 0005 XCT
    ∷ bpt out s  -- 0006 BPT
    ∷ give (wfi s)  -- 0007 WFI
    ∷ rsvc s  -- 0008 RSVC
    ∷ rrtt s  -- 0009 RRTT
    ∷ save s  -- 000A SAVE
    ∷ savs s  -- 000B SAVS
    ∷ rest s  -- 000C REST
    ∷ rrtn s  -- 000D RRTN
    ∷ rsts s  -- 000E RSTS
    ∷ rtt s  -- 000F RTT
    ∷ []

unfoldable pub format1 : Outside → State → ℕ → Work State
format1 out s op = get_or (codes1 out s) op (rtt s)
