-- The state: R0 to R5, SP, PC, the indicators, I2, the mode and the mark of a late IEN. Only this file builds a state record; everyone else uses its named updates.
use Rattle.std.specs.Prelude.{ℕ, ◌+◌, ◌*◌, ◌/◌, ◌%◌, Bool, false}
use Rattle.wordmath.specs.declared.Flags.{Flags}
use Rattle.state.specs.Registers.{reg_of, set_reg}
use Rattle.wordmath.specs.declared.Done.{Done}
use Rattle.wordmath.specs.declared.Pair.{Pair}
use Rattle.wordmath.specs.Number.{bit}
use Rattle.wordmath.specs.Address.{plus}
use Rattle.wordmath.specs.Status.{formed, flags_of, enable_of}
use Rattle.state.specs.declared.State.{State}
use Rattle.state.specs.declared.Outside.{Outside}
use Rattle.state.specs.declared.Settings.{Settings}
use Rattle.state.specs.declared.Mode.{Mode}
use Rattle.state.specs.declared.Mode.TheVariants.{Running, Waiting, PowerHalt, SwitchHalt, Locked, Saved}

-- 01's number of a mode
abbrev pub mode_number : Mode → ℕ
mode_number Running = 0
mode_number Waiting = 1
mode_number PowerHalt = 2
mode_number SwitchHalt = 3
mode_number Locked = 4
mode_number Saved = 5

-- ---- registers by number: R0 to R5 are 0 to 5, SP is 6, PC is 7

unfoldable pub reg : State → ℕ → ℕ
reg s k = reg_of s.regs k

-- the register after PC is R0
abbrev pub next : ℕ → ℕ
next k = plus k 1 % 8

-- ---- named updates

unfoldable pub with_reg : State → ℕ → ℕ → State
with_reg s k v = record { regs = set_reg s.regs k v; flags = s.flags; i2 = s.i2; mode = s.mode; mark = s.mark }

abbrev pub with_sp : State → ℕ → State
with_sp s v = with_reg s 6 v

abbrev pub with_pc : State → ℕ → State
with_pc s v = with_reg s 7 v

unfoldable pub with_flags : State → Flags → State
with_flags s f = record { regs = s.regs; flags = f; i2 = s.i2; mode = s.mode; mark = s.mark }

unfoldable pub with_i2 : State → Bool → State
with_i2 s b = record { regs = s.regs; flags = s.flags; i2 = b; mode = s.mode; mark = s.mark }

unfoldable pub with_mode : State → Mode → State
with_mode s m = record { regs = s.regs; flags = s.flags; i2 = s.i2; mode = m; mark = s.mark }

-- IEN is one op code late: while the mark is set, I0 and I1 are not heard
unfoldable pub with_mark : State → Bool → State
with_mark s b = record { regs = s.regs; flags = s.flags; i2 = s.i2; mode = s.mode; mark = b }

-- a popped PS sets N Z V C from bits 3 to 0 and I2 from bit 12
unfoldable pub with_status : State → ℕ → State
with_status s ps = record { regs = s.regs; flags = flags_of ps; i2 = enable_of ps; mode = s.mode; mark = s.mark }

-- REG and the indicators, as an op code leaves them
unfoldable pub with_done : State → ℕ → Done → State
with_done s k d = with_flags (with_reg s k d.value) d.flags

-- REG, REG+1 and the indicators
unfoldable pub with_pair : State → ℕ → Pair → State
with_pair s k p = with_flags (with_reg (with_reg s k p.low) (next k) p.high) p.flags

-- registers 0, indicators, I2 and the mark clear, running: what a power-up begins with
unfoldable pub cleared : State
cleared =
    record {
      regs = record { r0 = 0; r1 = 0; r2 = 0; r3 = 0; r4 = 0; r5 = 0; sp = 0; pc = 0 };
      flags = flags_of 0;
      i2 = false;
      mode = Running;
      mark = false;
    }

-- ---- what a step hears: the board's settings; power fail, I0, I1, I3 and the device code of its line word

abbrev pub heard : Settings → ℕ → Outside
heard settings line = record { settings = settings; fail = bit 7 line; i0 = bit 0 line; i1 = bit 1 line; i3 = bit 3 line; device = line / 256 % 16 }

-- the four jumpers as the External Status Register has them in bits 3 to 0: those of the halt option, then those of the power-up option
abbrev pub jumpers_of : Settings → ℕ
jumpers_of settings = settings.halt * 4 + settings.powerup

-- the PS formed now; bus where a bus error pushes it
unfoldable pub ps_of : Outside → Bool → State → ℕ
ps_of out bus s = formed (jumpers_of out.settings) out.fail bus s.i2 s.flags
