-- One step.
use Rattle.std.specs.Prelude.{ℕ, ◌+◌, ◌*◌, ◌%◌, Bool, true, false, not, ◌&&◌, cond, List, [], ◌∷◌, get_or, Option, Some, None}
use Rattle.board.specs.Work.{Work, give, Came, value, blank, run, ◌>>=◌}
use Rattle.state.specs.declared.State.{State}
use Rattle.state.specs.declared.Outside.{Outside}
use Rattle.state.specs.declared.Settings.{Settings}
use Rattle.state.specs.declared.Mode.{Mode}
use Rattle.state.specs.declared.Mode.TheVariants.{Running, Waiting, PowerHalt, SwitchHalt, Locked, Saved}
use Rattle.state.specs.State.{with_pc, with_mode, ps_of, cleared, heard}
use Rattle.wordmath.specs.Address.{plus, twice}
use Rattle.state.specs.Stack.{from_loc, tabled, trap, trap_now}
use Rattle.step.specs.Xct.{op_work}
use Rattle.step.specs.Places.{save_places, restore_places}
use Rattle.step.specs.declared.Turn.{Turn}
use Rattle.step.specs.declared.Kind.{Kind}
use Rattle.step.specs.declared.Kind.TheVariants.{OpCode, HaltEnd, Boots, Saves, LocksUp, Restarts, Restores, NonVectored, Vectored, Waits, Stuck}
use Rattle.step.specs.declared.Cause.{Cause}
use Rattle.step.specs.declared.Cause.TheVariants.{OpCodeBlank, InterruptBlank, SaveBlank, LockedAt}

-- ---- the options that the jumpers select

-- 00 execute user bootstrap routine; 01 save R0 to R5, SP, PC and PS, wait until I3 is clear, restore; 10 lock up processor; 11 fetch new PC from 16
unfoldable pub halt_option : Settings → Kind
halt_option settings = get_or (Boots ∷ Saves ∷ LocksUp ∷ Restarts ∷ []) settings.halt Restarts

-- 00 execute user bootstrap routine; 01 pick up R0 to R5, SP, PC and PS; 10 execute selected halt option; 11 fetch PC from 16
unfoldable pub power_up_option : Settings → Kind
power_up_option settings = get_or (Boots ∷ Restores ∷ halt_option settings ∷ Restarts ∷ []) settings.powerup Restarts

-- ---- which kind of step it is: the first that applies

-- 2. I1. 3. I0. 4. what a waiting or a running processor does
abbrev pub raised : Outside → Kind → Kind
raised out other = cond out.i1 NonVectored (cond out.i0 Vectored other)

-- 1. I3 selects the halt option; then 2 and 3, where I0 and I1 are heard
abbrev pub asked : Bool → Outside → Kind → Kind
asked hearing out other = cond out.i3 (halt_option out.settings) (cond hearing (raised out other) other)

-- Halted on power fail ends where power fail is clear, whatever the jumpers; halted for the switch comes to the halt option where I3 is set.
-- Locked: nothing changes. Saved ends where I3 is clear.
unfoldable pub kind_in : Mode → Bool → Outside → Kind
kind_in Running hearing out = asked hearing out OpCode
kind_in Waiting hearing out = asked hearing out Waits
kind_in PowerHalt hearing out = cond out.fail Waits HaltEnd
kind_in SwitchHalt hearing out = cond out.i3 (halt_option out.settings) Waits
kind_in Locked hearing out = Stuck
kind_in Saved hearing out = cond out.i3 Waits Restores

-- I0 and I1 are heard where I2 is set and no mark holds them off.
abbrev pub hears : State → Bool
hears s = s.i2 && not s.mark

abbrev pub kind_of : State → Outside → Kind
kind_of s out = kind_in s.mode (hears s) out

-- ---- the work of each kind

-- I1: ↓ PS, ↓ PC, I2 reset, running, PC from 14 if power fail is set, else from 2A
abbrev pub non_vectored : Outside → State → Work State
non_vectored out s = trap_now out s (cond out.fail 0x14 0x2a)

-- I0: ↓ PS, ↓ PC, I2 reset, running; T = word at 28 plus twice the device code; PC = T + word at T
unfoldable pub vectored : Outside → State → Work State
vectored out s = do
  s ← trap_now out s 0x28
  tabled s (plus s.regs.pc (twice out.device))

-- the end of a halt, and an option: PC from 16, running
abbrev pub restart : State → Work State
restart s = from_loc (with_mode s Running) 0x16

-- C000 in PC, its bits 8 to 13 from the External Address Register; running
abbrev pub bootstrap : Settings → State → State
bootstrap settings s = with_pc (with_mode s Running) (0xc000 + settings.register % 64 * 256)

unfoldable pub work_of : Kind → Outside → State → Work State
work_of OpCode out s = op_work out s
work_of HaltEnd out s = restart s
work_of Boots out s = give (bootstrap out.settings s)
work_of Saves out s = save_places out s
work_of LocksUp out s = give (with_mode s Locked)
work_of Restarts out s = restart s
work_of Restores out s = restore_places s
work_of NonVectored out s = non_vectored out s
work_of Vectored out s = vectored out s
work_of Waits out s = give s
work_of Stuck out s = give s

-- ---- causes

-- of a cause: 01's number; the address that a step tells, which is that of a blank or of a lock-up newly met; and that of a blank alone, after which the bus error's trap succeeded
pub record CauseRow : Type 0 where
  pub number : ℕ
  pub address : Option ℕ
  pub blank : Option ℕ

abbrev cause_row : ℕ → Option ℕ → Option ℕ → CauseRow
cause_row n a b = record { number = n; address = a; blank = b }

-- 7 is given to none
abbrev pub of_cause : Cause → CauseRow
of_cause Cause.OpCode = cause_row 0 None None  -- an op code or its trap
of_cause Cause.Switch = cause_row 1 None None  -- I3
of_cause Cause.NonVectored = cause_row 2 None None  -- I1
of_cause Cause.Vectored = cause_row 3 None None  -- I0
of_cause Cause.Nothing = cause_row 4 None None  -- nothing done
of_cause (OpCodeBlank a) = cause_row 5 (Some a) (Some a)  -- bus error in an op code
of_cause (InterruptBlank a) = cause_row 6 (Some a) (Some a)  -- in an interrupt
of_cause (SaveBlank a) = cause_row 9 (Some a) (Some a)  -- in a save
of_cause (LockedAt a) = cause_row 8 (Some a) None  -- locked now
of_cause Cause.Locked = cause_row 8 None None  -- locked before, or by the option

abbrev pub cause_number : Cause → ℕ
cause_number cause = (of_cause cause).number

abbrev pub cause_address : Cause → Option ℕ
cause_address cause = (of_cause cause).address

abbrev pub blank_at : Cause → Option ℕ
blank_at cause = (of_cause cause).blank

abbrev pub is_told : Option ℕ → Bool
is_told None = false
is_told (Some a) = true

abbrev pub is_blank : Cause → Bool
is_blank cause = is_told (blank_at cause)

-- of a kind of step: its cause; its cause where the work met a blank and the bus error's trap succeeded; whether it had come to fetching or executing an op code
pub record KindRow : Type 0 where
  pub cause : Cause
  pub error : ℕ → Cause
  pub code : Bool

abbrev kind_row : Cause → (ℕ → Cause) → Bool → KindRow
kind_row cause error code = record { cause = cause; error = error; code = code }

-- a halt option is 1, and so is the end of a save; the end of a halt on power fail is 0; the lock-up option locks.
-- Where 16 can't be fetched or the places can't be picked up, the trap never succeeds (proofs Laws/Restart); where nothing is read or written there is no bus error.
abbrev pub of_kind : Kind → KindRow
of_kind OpCode = kind_row Cause.OpCode OpCodeBlank true
of_kind HaltEnd = kind_row Cause.OpCode LockedAt false
of_kind Boots = kind_row Cause.Switch LockedAt false
of_kind Saves = kind_row Cause.Switch SaveBlank false
of_kind LocksUp = kind_row Cause.Locked LockedAt false
of_kind Restarts = kind_row Cause.Switch LockedAt false
of_kind Restores = kind_row Cause.Switch LockedAt false
of_kind NonVectored = kind_row Cause.NonVectored InterruptBlank false
of_kind Vectored = kind_row Cause.Vectored InterruptBlank false
of_kind Waits = kind_row Cause.Nothing LockedAt false
of_kind Stuck = kind_row Cause.Locked LockedAt false

abbrev pub cause_of : Kind → Cause
cause_of k = (of_kind k).cause

abbrev pub error_cause_of : Kind → ℕ → Cause
error_cause_of k a = (of_kind k).error a

abbrev pub is_code : Kind → Bool
is_code k = (of_kind k).code

-- ---- bus error: from the state before the step

-- PC plus 2 if the step had come to fetching or executing an op code
abbrev pub past : Kind → State → State
past k s = cond (is_code k) (with_pc s (plus s.regs.pc 2)) s

-- ↓ PS, with the bus error's bit; ↓ PC; I2 reset, running, PC from 12
unfoldable pub bus_error : Kind → Outside → State → Work State
bus_error k out s = trap (past k s) (ps_of out true (past k s)) 0x12

-- ---- the step

-- the state, the image and the cause after it
pub record After : Type 0 where
  pub state : State
  pub image : List ℕ
  pub cause : Cause

abbrev pub after : State → List ℕ → Cause → After
after s m k = record { state = s; image = m; cause = k }

-- a step's answer, with the image
abbrev pub turn_of : Turn → List ℕ → After
turn_of r m = after r.state m r.cause

-- what the work came to, or what is done where it was not answered at a
abbrev pub or_at : Came State → Cause → (ℕ → After) → After
or_at (value s m) cause other = after s m cause
or_at (blank a) cause other = other a

-- All work is dropped; the bus error's trap; if that too is not answered, all is as before but the mode, which is locked.
-- The address told is the one that the dropped work reached, as it was given, bit 0 included; never the trap's.
unfoldable pub error_of : List ℕ → Kind → Outside → State → List ℕ → ℕ → After
error_of map k out s m a = or_at (run map (bus_error k out s) m) (error_cause_of k a) (λ _. after (with_mode s Locked) m (LockedAt a))

unfoldable pub step_of : List ℕ → Outside → State → List ℕ → After
step_of map out s m =
    let k = kind_of s out in
    or_at (run map (work_of k out s) m) (cause_of k) (error_of map k out s m)

-- ---- power-up: the option's work on a cleared state and a quiet line

-- the state and the image after it
pub record Up : Type 0 where
  pub state : State
  pub image : List ℕ

abbrev pub up : State → List ℕ → Up
up s m = record { state = s; image = m }

-- Where it is not answered it is locked, PC and registers 0, and the image as lent.
abbrev pub or_locked : Came State → List ℕ → Up
or_locked (value s n) m = up s n
or_locked (blank a) m = up (with_mode cleared Locked) m

unfoldable pub power_up_of : Settings → List ℕ → List ℕ → Up
power_up_of settings map m = or_locked (run map (work_of (power_up_option settings) (heard settings 0) cleared) m) m
