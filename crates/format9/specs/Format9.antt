-- Format 9, 7000 to 7FFF: REG and DST. All but SOB preset N1 Z0 V0 C1. REG is read after DST is decoded.
use Rattle.std.specs.Prelude.{ℕ, ◌*◌, ◌%◌, cond, List, [], ◌∷◌, eqb, get_or}
use Rattle.opcodes.specs.Fields.{destination_mode, destination_register, register, format9_code, offset}
use Rattle.shift.specs.Shifted.{ash_of, ashc_of, preset}
use Rattle.arith.specs.Wide.{mul_of, div_of}
use Rattle.board.specs.Work.{Work, give, word, byte, ◌>>=◌}
use Rattle.state.specs.declared.State.{State}
use Rattle.state.specs.declared.Outside.{Outside}
use Rattle.state.specs.State.{reg, with_reg, with_pc, with_flags, next}
use Rattle.wordmath.specs.Address.{minus}
use Rattle.state.specs.Stack.{push_reg, trap_now}
use Rattle.operand.specs.declared.Place.{Place}
use Rattle.operand.specs.declared.Place.TheVariants.{Reg, Mem}
use Rattle.operand.specs.Operand.{decode, write_to}
use Rattle.operand.specs.Destination.{destination}
use Rattle.state.specs.State.{with_done, with_pair}

-- DMØ is illegal: the illegal-format trap
abbrev pub illegal : Outside → State → Work State
illegal out s = trap_now out s 0x1c

-- JSR at an address: ↓ SP, @SP ← REG; REG ← PC; PC ← DST
unfoldable pub jsr_at : State → ℕ → ℕ → Work State
jsr_at s r a = do
  s ← push_reg s r
  give (with_pc (with_reg s r s.regs.pc) a)

unfoldable pub jsr_to : Outside → State → ℕ → Place → Work State
jsr_to out s r Reg = illegal out s
jsr_to out s r (Mem a which v) = jsr_at s r a

-- JSR
unfoldable pub jsr : Outside → State → ℕ → Work State
jsr out s op = do
  to ← decode word s (destination_mode op) (destination_register op)
  jsr_to out to.state (register op) to.place

unfoldable pub lea_to : Outside → State → ℕ → Place → Work State
lea_to out s r Reg = illegal out s
lea_to out s r (Mem a which v) = give (with_reg s r a)

-- LEA: REG ← DST
unfoldable pub lea : Outside → State → ℕ → Work State
lea out s op = do
  to ← decode word s (destination_mode op) (destination_register op)
  lea_to out to.state (register op) to.place

-- ASH: REG is shifted by (DST), a signed byte
unfoldable pub ash : State → ℕ → Work State
ash s op = do
  o ← destination byte s op
  give (with_done o.state (register op) (ash_of (reg o.state (register op)) (o.operand % 256)))

-- SOB: REG ← REG - 1; IF REG is not 0, PC ← PC - (OFFSET * 2)
unfoldable pub sob : State → ℕ → State
sob s op =
    let v = minus (reg s (register op)) 1 in
    let t = with_reg s (register op) v in
    cond (eqb v 0) t (with_pc t (minus t.regs.pc (offset op * 2)))

-- XCH: REG and (DST) are exchanged
unfoldable pub xch : State → ℕ → Work State
xch s op = do
  o ← destination word s op
  write_to word (with_reg o.state (register op) o.operand) (destination_register op) o.place (reg o.state (register op))

-- ASHC: as ASH, on REG+1:REG
unfoldable pub ashc : State → ℕ → Work State
ashc s op = do
  o ← destination byte s op
  give
      (with_pair o.state (register op)
      (ashc_of (reg o.state (register op)) (reg o.state (next (register op))) (o.operand % 256)))

-- MUL: REG+1:REG ← REG * (DST)
unfoldable pub mul : State → ℕ → Work State
mul s op = do
  o ← destination word s op
  give (with_pair o.state (register op) (mul_of (reg o.state (register op)) o.operand))

-- DIV: REG ← REG+1:REG / (DST); REG+1 ← REMAINDER
unfoldable pub div : State → ℕ → Work State
div s op = do
  o ← destination word s op
  give
      (with_pair o.state (register op)
      (div_of (reg o.state (register op)) (reg o.state (next (register op))) o.operand))

-- t is s with the indicators preset; SOB leaves them
abbrev pub codes9 : Outside → State → State → ℕ → List (Work State)
codes9 out s t op
    = jsr out t op  -- 7000 JSR
    ∷ lea out t op  -- 7200 LEA
    ∷ ash t op  -- 7400 ASH
    ∷ give (sob s op)  -- 7600 SOB
    ∷ xch t op  -- 7800 XCH
    ∷ ashc t op  -- 7A00 ASHC
    ∷ mul t op  -- 7C00 MUL
    ∷ div t op  -- 7E00 DIV
    ∷ []

unfoldable pub format9 : Outside → State → ℕ → Work State
format9 out s op = get_or (codes9 out s (with_flags s preset) op) (format9_code op) (div (with_flags s preset) op)
