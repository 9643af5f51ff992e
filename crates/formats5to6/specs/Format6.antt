-- Format 6: immediates 0800 to 09FF, single shifts 8800 to 89FF, double shifts 8E00 to 8FFF. The number or count is bits 3 to 0 plus 1.
use Rattle.std.specs.Prelude.{cond, ℕ, ltb}
use Rattle.arith.specs.Immediate.{immediate_of}
use Rattle.opcodes.specs.Codes.{immediate_at, way_at}
use Rattle.opcodes.specs.Fields.{register, format6_code, count}
use Rattle.shift.specs.Shifted.{single_of, double_of}
use Rattle.state.specs.declared.State.{State}
use Rattle.state.specs.State.{reg, with_done, with_pair, next}

-- ADDI, SUBI, BICI, MOVI
unfoldable pub immediate : State → ℕ → State
immediate s op =
    with_done s (register op) (immediate_of (immediate_at (format6_code op)) (count op) (reg s (register op)) s.flags)

-- SSRR, SSLR, SSRA, SSLA
unfoldable pub single : State → ℕ → State
single s op = with_done s (register op) (single_of (way_at (format6_code op)) (count op) (reg s (register op)) s.flags)

-- SDRR, SDLR, SDRA, SDLA: on REG+1:REG
unfoldable pub double : State → ℕ → State
double s op =
    with_pair s (register op)
    (double_of (way_at (format6_code op)) (count op) (reg s (register op)) (reg s (next (register op))) s.flags)

unfoldable pub format6 : State → ℕ → State
format6 s op = cond (ltb op 0x8000) (immediate s op) (cond (ltb op 0x8a00) (single s op) (double s op))
