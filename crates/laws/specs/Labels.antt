-- WISH 7. AN ASSEMBLER FOR PATCHES: "I hand-encode patches and miscount SOB." What the technician wants of a label: the assembled branch,
-- SOB, JMP or CALL, executed at its address, comes to the label's value; and an operand A stands there. v is the label's value, and the
-- words are those that the assembler makes of it (patchline Line `with_label`), at the address where they stand.
-- A step with cause 0 was executed, so nothing is asked of lines, map or image but that the words stand at PC.
use Rattle.std.specs.Prelude.{ℕ, ◌%◌, ◌<◌, Bool, true, false, List, ◌≡◌}
use Rattle.board.specs.Work.{Size, value, run, image_word}
use Rattle.wordmath.specs.Address.{plus, minus}
use Rattle.opcodes.specs.Fields.{high_byte, register}
use Rattle.state.specs.declared.State.{State}
use Rattle.state.specs.declared.Settings.{Settings}
use Rattle.state.specs.declared.Mode.TheVariants.{Running}
use Rattle.state.specs.State.{reg}
use Rattle.step.specs.declared.Turn.{Turn}
use Rattle.step.specs.declared.Cause.TheVariants as Cause
use Rattle.operand.specs.declared.Place.TheVariants.{Mem}
use Rattle.operand.specs.Operand.{Decoded, decode}
use Rattle.patchline.specs.declared.oneline.How.TheVariants.{Branch, Sob, Relative}
use Rattle.patchline.specs.Line.{is_branch, is_sob, op, reaches, with_label}
use Rattle.laws.specs.Mark.{StepCall}
use Rattle.laws.specs.Branches.{lines, when_in}

-- a running processor's step, executed, at an even address h
pub record At (h : ℕ) (settings : Settings) (m map : List ℕ) (line : ℕ) (s : State) (t : Turn) (n : List ℕ) : Type 0 where
  pub call : StepCall settings m map line s t n
  pub runs : s.mode ≡ Running
  pub done : t.cause ≡ Cause.OpCode
  pub here : s.regs.pc ≡ h
  pub word : h < 65536
  pub even : h % 2 ≡ 0

-- a label's value
pub record Label (v : ℕ) : Type 0 where
  pub word : v < 65536
  pub even : v % 2 ≡ 0

-- ---- "A label may stand for a branch or SOB field"

-- a branch w with an empty field, assembled for the label, which it reaches: where it is taken, it comes there
abbrev pub BranchComes : Type 0
BranchComes = (h v w : ℕ) (third : Bool) (settings : Settings) (m map : List ℕ) (line : ℕ) (s : State) (t : Turn) (n : List ℕ) → At h settings m map line s t n → Label v
    → is_branch w ≡ true → w % 256 ≡ 0 → reaches Branch v h ≡ true → image_word m h ≡ (with_label Branch third v h (op 1 w)).a
    → when_in lines (high_byte w) s.flags ≡ true → t.state.regs.pc ≡ v

-- a SOB with an empty field, of a register that is not PC and isn't 0 after the count
abbrev pub SobComes : Type 0
SobComes = (h v w : ℕ) (third : Bool) (settings : Settings) (m map : List ℕ) (line : ℕ) (s : State) (t : Turn) (n : List ℕ) → At h settings m map line s t n → Label v
    → is_sob w ≡ true → w % 64 ≡ 0 → reaches Sob v h ≡ true → image_word m h ≡ (with_label Sob third v h (op 1 w)).a
    → (register w ≡ 7 → ⊥) → (minus (reg s (register w)) 1 ≡ 0 → ⊥) → t.state.regs.pc ≡ v

-- ---- "as A or @A, the manual's relative operands, it gives the offset from op code +4 or +6"

-- JMP A is LEA PC,A, 73F7; CALL A is JSR PC,A, 71F7: the second word as assembled
abbrev pub JumpComes : ℕ → Type 0
JumpComes code = (h v : ℕ) (settings : Settings) (m map : List ℕ) (line : ℕ) (s : State) (t : Turn) (n : List ℕ) → At h settings m map line s t n → Label v
    → image_word m h ≡ code → image_word m (plus h 2) ≡ (with_label Relative false v h (op 2 code)).b → t.state.regs.pc ≡ v

-- Any operand A, in any op code and at any place in it: decoded where PC stands at its offset word, which is that of the label from the
-- word after it, it stands at the label's value; @A at the address that stands there.
abbrev pub OperandStands : Type 0
OperandStands = (z : Size) (v : ℕ) (map : List ℕ) (s : State) (m : List ℕ) (o : Decoded) (n : List ℕ) → Label v → image_word m s.regs.pc ≡ minus v (plus s.regs.pc 2)
    → (run map (decode z s 6 7) m ≡ value o n → o.place ≡ Mem v 7 (plus s.regs.pc 2))
    × (run map (decode z s 7 7) m ≡ value o n → o.place ≡ Mem (image_word m v) 7 (plus s.regs.pc 2))
