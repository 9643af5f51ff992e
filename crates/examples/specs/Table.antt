-- THE STARRED EXAMPLES OF DOCUMENT 01, one table under one proved statement: what the definitions give, beside what 01 says.
use Rattle.std.specs.Prelude.{ℕ, ◌+◌, ◌*◌, ◌/◌, ◌<◌, Bool, true, false, not, cond, List, [], ◌∷◌, ◌++◌, map, replicate, ◌≡◌, eqb}
use Rattle.wordmath.specs.Number.{digit}
use Rattle.wordmath.specs.Status.{flags_of}
use Rattle.board.specs.Work.{image_word, with_word}
use Rattle.state.specs.declared.State.{State}
use Rattle.state.specs.State.{with_reg, with_pc, with_sp, with_flags, with_i2, cleared, heard}
use Rattle.hexdigits.specs.Digits.{letters}
use Rattle.optext.specs.Line.{taken, text_of, is_reserved}
use Rattle.step.specs.Step.{After, step_of}
use Rattle.endline.specs.Report.{bench_board}
use Rattle.plate.specs.Plate.{format_of}
use Rattle.state.specs.declared.Outside.{Outside}
use Rattle.step.specs.Xct.{traps_alone}

-- a row: what the definitions give, and what 01 says
pub record Example : Type 0 where
  pub got : List ℕ
  pub says : List ℕ

abbrev pub example : List ℕ → List ℕ → Example
example g s = record { got = g; says = s }

-- pages 0 to 3 are fitted
abbrev board : List ℕ
board = replicate 4 1 ++ replicate 252 0

-- an op code at 0100, and a word at a place
abbrev image : ℕ → ℕ → ℕ → List ℕ
image op at v = with_word (with_word (replicate 65536 0) 0x100 op) at v

-- R0, R1 and R2 at 0100, with SP 0200, indicators f and I2 i
abbrev before : ℕ → ℕ → ℕ → ℕ → Bool → State
before r0 r1 r2 f i = with_i2 (with_flags (with_sp (with_pc (with_reg (with_reg (with_reg cleared 0 r0) 1 r1) 2 r2) 0x100) 0x200) (flags_of f)) i

-- a step with quiet lines
abbrev stepped : ℕ → State → ℕ → ℕ → After
stepped op s at v = step_of board (heard bench_board 0) s (image op at v)

-- N 8, Z 4, V 2, C 1
abbrev nzvc : State → ℕ
nzvc s = digit s.flags.n * 8 + digit s.flags.z * 4 + digit s.flags.v * 2 + digit s.flags.c

-- R0 and the indicators; R0 and R1 too
abbrev r0 : After → List ℕ
r0 a = a.state.regs.r0 ∷ nzvc a.state ∷ []

abbrev pair : After → List ℕ
pair a = a.state.regs.r0 ∷ a.state.regs.r1 ∷ nzvc a.state ∷ []

-- R1 and PC
abbrev r1pc : After → List ℕ
r1pc a = a.state.regs.r1 ∷ a.state.regs.pc ∷ []

unfoldable pub table : List Example
table =
    -- 0800, R0 7FFF: 8000, N1 Z0 V1 C0. 0810, R0 0: FFFF, N1 Z0 V0 C1
    example (r0 (stepped 0x0800 (before 0x7fff 0 0 0 false) 0x300 0)) (0x8000 ∷ 0b1010 ∷ [])
    ∷ example (r0 (stepped 0x0810 (before 0 0 0 0 false) 0x300 0)) (0xffff ∷ 0b1001 ∷ [])
    -- 8820, R0 0101: 0080, C1 N1 V0. 7402 with R2 00FF, same R0: 0080, C1 N0 V1
    ∷ example (r0 (stepped 0x8820 (before 0x0101 0 0 0 false) 0x300 0)) (0x0080 ∷ 0b1001 ∷ [])
    ∷ example (r0 (stepped 0x7402 (before 0x0101 0 0x00ff 0 false) 0x300 0)) (0x0080 ∷ 0b0011 ∷ [])
    -- D080, R2 12FF: R0 FFFF. E080, R2 1280, R0 3401: 3481
    ∷ example (r0 (stepped 0xd080 (before 0 0 0x12ff 0 false) 0x300 0)) (0xffff ∷ 0b1000 ∷ [])
    ∷ example (r0 (stepped 0xe080 (before 0x3401 0 0x1280 0 false) 0x300 0)) (0x3481 ∷ 0b1000 ∷ [])
    -- 0B40 keeps C; 0B48 resets it
    ∷ example (r0 (stepped 0x0b40 (before 0x0300 0 0 0b0001 false) 0x300 0)) (0 ∷ 0b0101 ∷ [])
    ∷ example (r0 (stepped 0x0b48 (before 0x0300 0 0 0b0001 false) 0x300 0)) (0x0300 ∷ 0b0100 ∷ [])
    -- 7E02, R1 2, R0 5, R2 3: R0 AAAC, R1 1. R1 3: V1 C0, no divide. R2 0: V1 C1
    ∷ example (pair (stepped 0x7e02 (before 5 2 3 0 false) 0x300 0)) (0xaaac ∷ 1 ∷ 0b1001 ∷ [])
    ∷ example (pair (stepped 0x7e02 (before 5 3 3 0 false) 0x300 0)) (5 ∷ 3 ∷ 0b0010 ∷ [])
    ∷ example (pair (stepped 0x7e02 (before 5 2 0 0 false) 0x300 0)) (5 ∷ 2 ∷ 0b0011 ∷ [])
    ∷ example (pair (stepped 0x7e02 (before 5 3 0 0 false) 0x300 0)) (5 ∷ 3 ∷ 0b0011 ∷ [])
    -- 7643 at 0100: R1 2 to 00FC, R1 1 to 0102, R1 0 to 00FC with FFFF
    ∷ example (r1pc (stepped 0x7643 (before 0 2 0 0 false) 0x300 0)) (1 ∷ 0x00fc ∷ [])
    ∷ example (r1pc (stepped 0x7643 (before 0 1 0 0 false) 0x300 0)) (0 ∷ 0x0102 ∷ [])
    ∷ example (r1pc (stepped 0x7643 (before 0 0 0 0 false) 0x300 0)) (0xffff ∷ 0x00fc ∷ [])
    -- B240 at 0100, R1 8000 unfitted, SP 0200, I2 set, indicators clear, 0300 at 12: R0 kept, 5F00 at 01FE, 0102 at 01FC, PC 0300
    ∷ (let a = stepped 0xb240 (before 0x1234 0x8000 0 0 true) 0x12 0x300 in
    example (a.state.regs.r0 ∷ image_word a.image 0x1fe ∷ image_word a.image 0x1fc ∷ a.state.regs.pc ∷ []) (0x1234 ∷ 0x5f00 ∷ 0x0102 ∷ 0x0300 ∷ []))
    -- B44A with R2 unfitted: R1 is not incremented
    ∷ example (r1pc (stepped 0xb44a (before 0 0x0300 0x8000 0 false) 0x12 0x300)) (0x0300 ∷ 0x0300 ∷ [])
    -- 15C0 0005 is ADD #0005,R0. B7E6 1234 is MOV @#1234,-(SP). Each takes both words
    ∷ example (taken 0x15c0 ∷ text_of (0x15c0 ∷ 0x0005 ∷ [])) (2 ∷ letters "ADD #0005,R0")
    ∷ example (taken 0xb7e6 ∷ text_of (0xb7e6 ∷ 0x1234 ∷ [])) (2 ∷ letters "MOV @#1234,-(SP)")
    ∷ []

-- EVERY ROW HOLDS
abbrev pub Starred : Type 0
Starred = map (λ (r : Example). r.got) table ≡ map (λ (r : Example). r.says) table

-- RESERVED AND ILLEGAL ARE ONE RULE: the op codes whose own trap ends an XCT are those of format 8 where their microm is not fitted, and
-- those that the text has no name for
abbrev pub TrapsReserved : Type 0
TrapsReserved = (out : Outside) (w : ℕ) → w < 65536 → traps_alone out (format_of (w / 256)) w ≡ cond (eqb (format_of (w / 256)) 8) (not out.settings.blocks) (is_reserved w)
