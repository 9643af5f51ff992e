-- Format 5, 0100 to 07FF and 8000 to 87FF: the branches.
use Rattle.std.specs.Prelude.{cond, ℕ, ◌+◌, ◌*◌, ◌/◌, ◌%◌}
use Rattle.arith.specs.Branch.{branch_taken}
use Rattle.arith.specs.Ops.{extended}
use Rattle.state.specs.declared.State.{State}
use Rattle.state.specs.State.{with_pc}
use Rattle.wordmath.specs.Address.{plus, twice}

-- DISP * 2: DISP is a signed byte, bits 7 to 0, and its sign is extended as MOVB's
abbrev pub displacement : ℕ → ℕ
displacement op = twice (extended (op % 256))

-- BR to BLE are 1 to 7, BPL to BCS 8 to 15
abbrev pub branch_number : ℕ → ℕ
branch_number op = op / 256 % 8 + op / 32768 * 8

-- IF the condition holds, PC ← PC + (DISP * 2)
unfoldable pub branch : State → ℕ → State
branch s op = cond (branch_taken (branch_number op) s.flags) (with_pc s (plus s.regs.pc (displacement op))) s
