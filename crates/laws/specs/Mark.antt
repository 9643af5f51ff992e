-- WISH 3. IEN IS ONE OP CODE LATE ON OUR BOARDS: what the mark in the state is after any step and any power-up, and what it holds off.
-- Whatever calls of `step` and `power_up` answer and leave, as their contracts promise.
use Rattle.std.specs.Prelude.{ℕ, Bool, true, false, not, ◌&&◌, ◌||◌, cond, List, [], ◌∷◌, ◌≡◌, eqb, Ok}
use Rattle.board.specs.Work.{image_word}
use Rattle.wordmath.specs.Number.{bit}
use Rattle.wordmath.specs.Status.{enable_of}
use Rattle.state.specs.declared.State.{State}
use Rattle.state.specs.declared.Settings.{Settings}
use Rattle.state.specs.declared.Outside.{Outside}
use Rattle.state.specs.declared.Mode.{Mode}
use Rattle.state.specs.declared.Mode.TheVariants.{Running}
use Rattle.step.specs.declared.Turn.{Turn}
use Rattle.step.specs.declared.Cause.{Cause}
use Rattle.step.specs.declared.Cause.TheVariants as Cause
use Rattle.state.specs.State.{mode_number, ps_of}
use Rattle.step.specs.Step.{cause_number}
use Rattle.refusal.specs.Page.{left, told}
use Rattle.wordbytes.specs.Words.{byte_at}
use Rattle.machine_c.specs.Layout.{state_from}
use Rattle.machine_c.specs.Calls.{power_up_call, step_call}
use Rattle.machine.specs.Entry.{powered_page, stepped_page, power_up_page, step_page}

-- IEN is 0002, SAVS 000B
abbrev pub enables : ℕ → Bool
enables op = eqb op 0x2 || eqb op 0xb

-- The op code that a running processor's step executes: the one at PC; where that is XCT, 0005, the one at the PC that XCT pops.
abbrev pub executed : State → List ℕ → ℕ
executed s m = cond (eqb (image_word m s.regs.pc) 0x5) (image_word m (image_word m s.regs.sp)) (image_word m s.regs.pc)

abbrev pub is_running : Mode → Bool
is_running mode = eqb (mode_number mode) 0

-- ---- the mark after a step, by the step's cause; s and m are the state and the image before it

abbrev pub mark_after : State → List ℕ → Cause → Bool
-- "IEN, also inside SAVS, sets it only where I2 was clear. It is cleared by the next executed op code"; "an IEN under XCT sets it after
-- the push to 20's routine": at the end of an executed op code, also under XCT, the mark says that this op code was IEN or SAVS and
-- found I2 clear, whatever it said before. (Cause 0 from another mode is the end of a halt on power fail, which keeps it.)
mark_after s m Cause.OpCode = cond (is_running s.mode) (enables (executed s m) && not s.i2) s.mark
-- "I3 isn't held and keeps the mark", whatever the halt option; so do a restore and waiting
mark_after s m Cause.Switch = s.mark
mark_after s m Cause.Nothing = s.mark
-- "by any trap": an interrupt's. (An op code's own trap is above: it is neither IEN nor SAVS.)
mark_after s m Cause.NonVectored = false
mark_after s m Cause.Vectored = false
-- "and by a bus error"
mark_after s m (Cause.OpCodeBlank a) = false
mark_after s m (Cause.InterruptBlank a) = false
mark_after s m (Cause.SaveBlank a) = false
-- locked, now or before: all is as before the step but the mode
mark_after s m (Cause.LockedAt a) = s.mark
mark_after s m Cause.Locked = s.mark

-- a call of `step` that answered t and left the image n
abbrev pub StepCall : Settings → List ℕ → List ℕ → ℕ → State → Turn → List ℕ → Type 0
StepCall settings m map line s t n = left (stepped_page (Ok t)) n ≡ step_page settings m map line s

abbrev pub MarkAfter : Type 0
MarkAfter = (settings : Settings) (m map : List ℕ) (line : ℕ) (s : State) (t : Turn) (n : List ℕ) → StepCall settings m map line s t n
    → t.state.mark ≡ mark_after s m t.cause

-- ---- "Power-up clears it", whatever the power-up option

abbrev pub PowerUpClears : Type 0
PowerUpClears = (settings : Settings) (m map : List ℕ) (s : State) (n : List ℕ) → left (powered_page (Ok s)) n ≡ power_up_page settings m map
    → s.mark ≡ false

-- ---- "a mark in the state holds off steps 2 and 3": while it is set neither I1 nor I0 is heard, in any mode and on any line word: no
-- step has cause 2 or 3, and none cause 6, that of an interrupt which met a blank

-- the cause's number is one of these
abbrev pub among : List ℕ → ℕ → Bool
among [] n = false
among (k ∷ ks) n = eqb n k || among ks n

abbrev pub from_interrupt : Cause → Bool
from_interrupt cause = among (2 ∷ 3 ∷ 6 ∷ []) (cause_number cause)

abbrev pub HoldsOff : Type 0
HoldsOff = (settings : Settings) (m map : List ℕ) (line : ℕ) (s : State) (t : Turn) (n : List ℕ) → StepCall settings m map line s t n
    → s.mark ≡ true → from_interrupt t.cause ≡ false

-- "I3 isn't held": a running or a waiting processor does the halt option where I3 is set, marked or not: cause 1, or 9 where a save
-- meets a blank, or 8 where it locks

abbrev pub from_switch : Cause → Bool
from_switch cause = among (1 ∷ 8 ∷ 9 ∷ []) (cause_number cause)

abbrev pub runs_or_waits : Mode → Bool
runs_or_waits mode = among (0 ∷ 1 ∷ []) (mode_number mode)

abbrev pub SwitchHeard : Type 0
SwitchHeard = (settings : Settings) (m map : List ℕ) (line : ℕ) (s : State) (t : Turn) (n : List ℕ) → StepCall settings m map line s t n
    → runs_or_waits s.mode ≡ true → bit 3 line ≡ true → from_switch t.cause ≡ true

-- ---- "on ours IEN lets one more op code begin before I0 or I1 are heard": after an IEN or SAVS, under XCT too, that was done and found
-- I2 clear, the next step is an op code (cause 0, or 5 or 8 where it meets a blank), whatever asks but I3; and after that op code,
-- whatever it was, if it leaves the processor running with I2 set, the interrupt that asks is heard (2 or 3, or 6 or 8). Exactly one:
-- no premise says that the op code between clears the mark.

abbrev pub from_op_code : Cause → Bool
from_op_code cause = among (0 ∷ 5 ∷ 8 ∷ []) (cause_number cause)

abbrev pub interrupted : Cause → Bool
interrupted cause = among (2 ∷ 3 ∷ 6 ∷ 8 ∷ []) (cause_number cause)

module _ (settings : Settings) (map : List ℕ) (m m₁ m₂ m₃ : List ℕ) (l₁ l₂ l₃ : ℕ) (s : State) (t₁ t₂ t₃ : Turn)
    (ien : StepCall settings m map l₁ s t₁ m₁) (next : StepCall settings m₁ map l₂ t₁.state t₂ m₂) (last : StepCall settings m₂ map l₃ t₂.state t₃ m₃) where
  abbrev pub LateOnce : Type 0
  LateOnce = s.mode ≡ Running → s.i2 ≡ false → enables (executed s m) ≡ true → t₁.cause ≡ Cause.OpCode
      → bit 3 l₂ ≡ false → bit 3 l₃ ≡ false → (bit 1 l₃ || bit 0 l₃) ≡ true
      → (from_op_code t₂.cause ≡ true) × (t₂.cause ≡ Cause.OpCode → t₂.state.mode ≡ Running → t₂.state.i2 ≡ true → interrupted t₃.cause ≡ true)

-- ---- THE SAME FOR C, on the bytes that `wd16_step` and `wd16_power_up` leave; w are the settings' bytes. Byte 18 is the mode, 19 the cause
-- of the step that left them, 20 the mark; `state_from` is the state that the bytes hold

-- a call of `wd16_step` that answered 0
abbrev pub LentSteps : List ℕ → List ℕ → List ℕ → List ℕ → ℕ → List ℕ → List ℕ → Type 0
LentSteps w b m map line b' m' = told 0 (b', m') ≡ step_call b m map w line

-- the mark after a step, by the number of the step's cause: an executed op code (0); an interrupt's trap and a bus error (2, 3, 5, 6, 9)
abbrev pub mark_by : State → List ℕ → ℕ → Bool
mark_by s m n =
    cond (eqb n 0) (cond (is_running s.mode) (enables (executed s m) && not s.i2) s.mark)
    (cond (among (2 ∷ 3 ∷ 5 ∷ 6 ∷ 9 ∷ []) n) false s.mark)

abbrev pub Wd16MarkAfter : Type 0
Wd16MarkAfter = (w b m map : List ℕ) (line : ℕ) (b' m' : List ℕ) → LentSteps w b m map line b' m' → (state_from b').mark ≡ mark_by (state_from b) m (byte_at b' 19)

abbrev pub Wd16PowerUpClears : Type 0
Wd16PowerUpClears = (w b m map b' m' : List ℕ) → told 0 (b', m') ≡ power_up_call b m map w → (state_from b').mark ≡ false

abbrev pub Wd16HoldsOff : Type 0
Wd16HoldsOff = (w b m map : List ℕ) (line : ℕ) (b' m' : List ℕ) → LentSteps w b m map line b' m' → (state_from b).mark ≡ true → among (2 ∷ 3 ∷ 6 ∷ []) (byte_at b' 19) ≡ false

abbrev pub Wd16SwitchHeard : Type 0
Wd16SwitchHeard = (w b m map : List ℕ) (line : ℕ) (b' m' : List ℕ) → LentSteps w b m map line b' m'
    → runs_or_waits (state_from b).mode ≡ true → bit 3 line ≡ true → among (1 ∷ 8 ∷ 9 ∷ []) (byte_at b' 19) ≡ true

abbrev pub Wd16LateOnce : Type 0
Wd16LateOnce = (w b m map : List ℕ) (l₁ l₂ l₃ : ℕ) (b₁ m₁ b₂ m₂ b₃ m₃ : List ℕ)
    → LentSteps w b m map l₁ b₁ m₁ → LentSteps w b₁ m₁ map l₂ b₂ m₂ → LentSteps w b₂ m₂ map l₃ b₃ m₃
    → (state_from b).mode ≡ Running → (state_from b).i2 ≡ false → enables (executed (state_from b) m) ≡ true → byte_at b₁ 19 ≡ 0
    → bit 3 l₂ ≡ false → bit 3 l₃ ≡ false → (bit 1 l₃ || bit 0 l₃) ≡ true
    → (among (0 ∷ 5 ∷ 8 ∷ []) (byte_at b₂ 19) ≡ true)
    × (byte_at b₂ 19 ≡ 0 → (state_from b₂).mode ≡ Running → (state_from b₂).i2 ≡ true → among (2 ∷ 3 ∷ 6 ∷ 8 ∷ []) (byte_at b₃ 19) ≡ true)

-- ---- "I2 and the PS bit are set at once": after an IEN or SAVS that was executed, under XCT too, I2 is set, and so is bit 12 of every PS that is formed from
-- the state, whatever the lines and the jumpers, in a bus error or not

pub record SetAtOnce (s : State) : Type 0 where
  pub i2 : s.i2 ≡ true
  pub ps_bit : (out : Outside) (bus : Bool) → enable_of (ps_of out bus s) ≡ true

abbrev pub EnabledAtOnce : Type 0
EnabledAtOnce = (settings : Settings) (m map : List ℕ) (line : ℕ) (s : State) (t : Turn) (n : List ℕ) → StepCall settings m map line s t n
    → s.mode ≡ Running → enables (executed s m) ≡ true → t.cause ≡ Cause.OpCode → SetAtOnce t.state

abbrev pub Wd16EnabledAtOnce : Type 0
Wd16EnabledAtOnce = (w b m map : List ℕ) (line : ℕ) (b' m' : List ℕ) → LentSteps w b m map line b' m'
    → (state_from b).mode ≡ Running → enables (executed (state_from b) m) ≡ true → byte_at b' 19 ≡ 0 → SetAtOnce (state_from b')
