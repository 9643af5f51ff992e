-- WISH 2. BRANCH CONDITIONS THAT CAN BE READ: "Show seven conditions and one reversal. No caller may see a difference." The program's
-- seven conditions and their reversal (arith Branch) are, in every step over an op code of format 5, the manual's fifteen printed lines.
use Rattle.std.specs.Prelude.{ℕ, Bool, true, false, not, ◌||◌, cond, List, [], ◌∷◌, ◌≡◌, eqb}
use Prim.Native.String.{String}
use Rattle.wordmath.specs.declared.Flags.{Flags}
use Rattle.wordmath.specs.Address.{plus}
use Rattle.arith.specs.Branch.{◌xor◌}
use Rattle.board.specs.Work.{image_word}
use Rattle.plate.specs.Plate.{format_of}
use Rattle.opcodes.specs.Fields.{high_byte}
use Rattle.formats5to6.specs.Format5.{displacement}
use Rattle.state.specs.declared.State.{State}
use Rattle.state.specs.declared.Settings.{Settings}
use Rattle.state.specs.declared.Mode.TheVariants.{Running}
use Rattle.state.specs.State.{with_pc, with_mark}
use Rattle.step.specs.declared.Turn.{Turn}
use Rattle.step.specs.declared.Cause.TheVariants as Cause
use Rattle.wordbytes.specs.Words.{byte_at}
use Rattle.machine_c.specs.Layout.{state_from}
use Rattle.laws.specs.Mark.{StepCall, LentSteps}

-- a printed line: its name, the high byte, and when "PC ← PC + (DISP * 2)"
pub record Line : Type 0 where
  pub name : String
  pub high : ℕ
  pub when : Flags → Bool

abbrev branch_line : String → ℕ → (Flags → Bool) → Line
branch_line name high when = record { name = name; high = high; when = when }

-- the manual's OPERATION lines of format 5: "IF x = 0" is not x, "IF x = 1" is x
abbrev pub lines : List Line
lines
    = branch_line "BR" 0x01 (λ f. true)
    ∷ branch_line "BNE" 0x02 (λ f. not f.z)
    ∷ branch_line "BEQ" 0x03 (λ f. f.z)
    ∷ branch_line "BGE" 0x04 (λ f. not (f.n xor f.v))
    ∷ branch_line "BLT" 0x05 (λ f. f.n xor f.v)
    ∷ branch_line "BGT" 0x06 (λ f. not (f.z || (f.n xor f.v)))
    ∷ branch_line "BLE" 0x07 (λ f. f.z || (f.n xor f.v))
    ∷ branch_line "BPL" 0x80 (λ f. not f.n)
    ∷ branch_line "BMI" 0x81 (λ f. f.n)
    ∷ branch_line "BHI" 0x82 (λ f. not (f.c || f.z))
    ∷ branch_line "BLOS" 0x83 (λ f. f.c || f.z)
    ∷ branch_line "BVC" 0x84 (λ f. not f.v)
    ∷ branch_line "BVS" 0x85 (λ f. f.v)
    ∷ branch_line "BCC" 0x86 (λ f. not f.c)  -- also BHIS
    ∷ branch_line "BCS" 0x87 (λ f. f.c)  -- also BLO
    ∷ []

-- when the line of a high byte branches; any other high byte has no line
abbrev pub when_in : List Line → ℕ → Flags → Bool
when_in [] h f = false
when_in (l ∷ ls) h f = cond (eqb h l.high) (l.when f) (when_in ls h f)

-- PC past the op code, with twice the signed displacement added where the line says so; the mark is cleared, as by every op code
abbrev pub branched : ℕ → State → State
branched op s =
    let past = plus s.regs.pc 2 in
    with_mark (with_pc s (cond (when_in lines (high_byte op) s.flags) (plus past (displacement op)) past)) false

-- A STEP OF A RUNNING PROCESSOR that executes an op code of format 5: cause 0 says that it was executed, so no premise on the lines, the
-- map or the image is needed.
abbrev pub BranchesAsPrinted : Type 0
BranchesAsPrinted = (settings : Settings) (m map : List ℕ) (lines : ℕ) (s : State) (t : Turn) (n : List ℕ) → StepCall settings m map lines s t n
    → (let op = image_word m s.regs.pc in s.mode ≡ Running → t.cause ≡ Cause.OpCode → format_of (high_byte op) ≡ 5 → (t.state ≡ branched op s) × (n ≡ m))

-- The same for C: a step that leaves cause 0, on the bytes that `wd16_step` leaves.
abbrev pub Wd16BranchesAsPrinted : Type 0
Wd16BranchesAsPrinted = (w b m map : List ℕ) (lines : ℕ) (b' m' : List ℕ) → LentSteps w b m map lines b' m'
    → (let s = state_from b in let op = image_word m s.regs.pc in
    s.mode ≡ Running → byte_at b' 19 ≡ 0 → format_of (high_byte op) ≡ 5 → (state_from b' ≡ branched op s) × (m' ≡ m))
