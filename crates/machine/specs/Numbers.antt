-- The answers of the public calls in 01's numbers.
use Rattle.std.specs.Prelude.{ℕ, ◌+◌, ◌*◌, List, [], ◌∷◌, Option, Some, None}
use Rattle.wordmath.specs.declared.Flags.{Flags}
use Rattle.wordmath.specs.Number.{digit}
use Rattle.state.specs.declared.State.{State}
use Rattle.state.specs.State.{mode_number}
use Rattle.step.specs.declared.Turn.{Turn}
use Rattle.step.specs.Step.{cause_number, cause_address}
use Rattle.machine.specs.declared.Ran.{Ran}
use Rattle.machine.specs.declared.FirstBlank.{FirstBlank}

-- ---- a state

-- R0 to R5, SP and PC
abbrev pub registers_of : State → List ℕ
registers_of s = s.regs.r0 ∷ s.regs.r1 ∷ s.regs.r2 ∷ s.regs.r3 ∷ s.regs.r4 ∷ s.regs.r5 ∷ s.regs.sp ∷ s.regs.pc ∷ []

-- N 8, Z 4, V 2, C 1
abbrev pub indicators : Flags → ℕ
indicators f = digit f.n * 8 + digit f.z * 4 + digit f.v * 2 + digit f.c

-- the registers, the indicators, I2, the mode (0 running, 1 waiting, 2 halted on power fail, 3 halted for the switch, 4 locked, 5 saved), and the mark of a late IEN
pub record StatePage : Type 0 where
  pub registers : List ℕ
  pub indicators : ℕ
  pub i2 : ℕ
  pub mode : ℕ
  pub mark : ℕ

unfoldable pub state_page : State → StatePage
state_page s = record { registers = registers_of s; indicators = indicators s.flags; i2 = digit s.i2; mode = mode_number s.mode; mark = digit s.mark }

-- ---- after a step: the state, the cause, and the address that it tells or none

pub data Address : Type 0 where
  address : ℕ → Address
  nowhere : Address

abbrev pub told_of : Option ℕ → Address
told_of (Some a) = address a
told_of None = nowhere

pub record TurnPage : Type 0 where
  pub state : StatePage
  pub cause : ℕ
  pub told : Address

abbrev pub turn_page : Turn → TurnPage
turn_page t = record { state = state_page t.state; cause = cause_number t.cause; told = told_of (cause_address t.cause) }

-- ---- after a run: the state, the count of blanks, and the place of the first with the address that it told, or none

pub data FirstPage : Type 0 where
  place : ℕ → ℕ → FirstPage
  none : FirstPage

abbrev pub first_at : ℕ → ℕ → FirstBlank
first_at p a = record { place = p; address = a }

abbrev pub first_page : Option FirstBlank → FirstPage
first_page (Some b) = place b.place b.address
first_page None = none

pub record RanPage : Type 0 where
  pub state : StatePage
  pub blanks : ℕ
  pub first : FirstPage

abbrev pub ran_page : Ran → RanPage
ran_page r = record { state = state_page r.state; blanks = r.tally.blanks; first = first_page r.tally.first }
