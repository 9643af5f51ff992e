-- Format 4, 0040 to 00FF: supervisor calls with a number n of 6 bits. All keep I2.
use Rattle.std.specs.Prelude.{ℕ, false, List, [], ◌∷◌, get_or}
use Rattle.opcodes.specs.Fields.{format4_code, argument}
use Rattle.board.specs.Work.{Work, load, ◌>>=◌}
use Rattle.state.specs.declared.State.{State}
use Rattle.state.specs.declared.Outside.{Outside}
use Rattle.state.specs.State.{with_reg, ps_of}
use Rattle.wordmath.specs.Address.{plus, minus, twice}
use Rattle.state.specs.Stack.{push, from_loc, push_both, tabled}
use Rattle.format1.specs.Format1.{save}

-- SVCA: ↓ PS, ↓ PC; PC ← (loc 22) + ARG * 2; PC ← PC + @PC
unfoldable pub svca : Outside → State → ℕ → Work State
svca out s n = do
  s ← push_both s (ps_of out false s)
  table ← load 0x22
  tabled s (plus table (twice n))

-- SVCB, SVCC: TMPA ← SP; ↓ PS, ↓ PC; TMPB ← SP; ↓ TMPA; SAVE; R1 ← TMPB; R5 ← ARG * 2; PC ← (loc at)
unfoldable pub svc : Outside → State → ℕ → ℕ → Work State
svc out s n at = do
  both ← push_both s (ps_of out false s)
  t ← push both s.regs.sp
  t ← save t
  from_loc (with_reg (with_reg t 1 both.regs.sp) 5 (twice n)) at

abbrev pub codes4 : Outside → State → ℕ → List (Work State)
codes4 out s n
    = svca out s n  -- 0040 SVCA
    ∷ svc out s n 0x24  -- 0080 SVCB
    ∷ svc out s n 0x26  -- 00C0 SVCC
    ∷ []

-- OPC is 1 to 3
unfoldable pub format4 : Outside → State → ℕ → Work State
format4 out s op = get_or (codes4 out s (argument op)) (minus (format4_code op) 1) (svc out s (argument op) 0x26)
