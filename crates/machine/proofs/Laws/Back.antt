-- ONE OUTCOME: a page keeps all of its answer, so two outcomes of a call that meet its contract are the same.
use Rattle.std.specs.Prelude.{Option, Some, None}
use Prim.Native.Nat.{ℕ, ◌+◌, ◌*◌}
use mathlib.Core.Bool.{Bool, true, false}
use mathlib.Core.List.{List, [], ◌∷◌}
use mathlib.Core.Path.{◌≡◌, refl}
use lib.Dec.{eqb}
use lib.ListN.{get_or}
use Rattle.wordmath.specs.declared.Flags.{Flags}
use Rattle.wordmath.specs.Number.{digit}
use Rattle.wordmath.specs.Status.{flags_of}
use Rattle.state.specs.declared.State.{State}
use Rattle.state.specs.declared.Mode.{Mode}
use Rattle.state.specs.declared.Mode.TheVariants.{Running, Waiting, PowerHalt, SwitchHalt, Locked, Saved}
use Rattle.state.specs.State.{mode_number, cleared, with_reg, with_flags, with_i2, with_mode, with_mark}
use Rattle.state.specs.Registers.{set_reg}
use Rattle.step.specs.declared.Turn.{Turn}
use Rattle.step.specs.declared.Cause.{Cause}
use Rattle.step.specs.Step.{cause_number, cause_address}
use Rattle.machine.specs.declared.Ran.{Ran}
use Rattle.machine.specs.declared.FirstBlank.{FirstBlank}
use Rattle.machine.specs.Entry.{Powered, Stepped, Finished, powered_page, stepped_page, finished_page}
use Rattle.refusal.specs.Page.{left}
use Rattle.refusal.proofs.Laws.Answer.{page-one}
use Rattle.refusal.proofs.Laws.Page.{one, one-call}
use Rattle.machine.specs.Numbers.{first_at, indicators, state_page, Address, address, nowhere, told_of, TurnPage, turn_page, FirstPage, place, none, first_page, RanPage, ran_page}
use Rattle.machine.specs.Back.{mode_of, from_registers, state_of}

-- ---- a state, from its page

bits-again : (n z v c : Bool) → flags_of (digit n * 8 + digit z * 4 + digit v * 2 + digit c) ≡ record { n = n; z = z; v = v; c = c }
bits-again true true true true = refl
bits-again true true true false = refl
bits-again true true false true = refl
bits-again true true false false = refl
bits-again true false true true = refl
bits-again true false true false = refl
bits-again true false false true = refl
bits-again true false false false = refl
bits-again false true true true = refl
bits-again false true true false = refl
bits-again false true false true = refl
bits-again false true false false = refl
bits-again false false true true = refl
bits-again false false true false = refl
bits-again false false false true = refl
bits-again false false false false = refl

flags-again : (f : Flags) → flags_of (indicators f) ≡ f
flags-again f = bits-again f.n f.z f.v f.c

bool-again : (b : Bool) → eqb (digit b) 1 ≡ b
bool-again true = refl
bool-again false = refl

mode-again : (m : Mode) → mode_of (mode_number m) ≡ m
mode-again Running = refl
mode-again Waiting = refl
mode-again PowerHalt = refl
mode-again SwitchHalt = refl
mode-again Locked = refl
mode-again Saved = refl

-- A STATE'S PAGE GIVES IT BACK
pub state-back : (s : State) → state_of (state_page s) ≡ s
unfolding state_of state_page from_registers with_reg set_reg with_flags with_i2 with_mode with_mark cleared
state-back s = rw (flags-again s.flags, bool-again s.i2, mode-again s.mode, bool-again s.mark)

pub state-one : (s t : State) → state_page s ≡ state_page t → s ≡ t
state-one = one state_of state-back

-- ---- an answer, from its page

-- the causes in the order of their numbers, a lock-up in the free place of 7 too; the last are a save's blank and the old lock-up
abbrev cause_of : ℕ → Address → Cause
cause_of k (address a) =
    get_or (Cause.OpCode ∷ Cause.Switch ∷ Cause.NonVectored ∷ Cause.Vectored ∷ Cause.Nothing ∷ Cause.OpCodeBlank a ∷ Cause.InterruptBlank a ∷ Cause.LockedAt a ∷ Cause.LockedAt a ∷ []) k (Cause.SaveBlank a)
cause_of k nowhere = get_or (Cause.OpCode ∷ Cause.Switch ∷ Cause.NonVectored ∷ Cause.Vectored ∷ Cause.Nothing ∷ []) k Cause.Locked

cause-back : (c : Cause) → cause_of (cause_number c) (told_of (cause_address c)) ≡ c
cause-back Cause.OpCode = refl
cause-back Cause.Switch = refl
cause-back Cause.NonVectored = refl
cause-back Cause.Vectored = refl
cause-back Cause.Nothing = refl
cause-back (Cause.OpCodeBlank a) = refl
cause-back (Cause.InterruptBlank a) = refl
cause-back (Cause.SaveBlank a) = refl
cause-back (Cause.LockedAt a) = refl
cause-back Cause.Locked = refl

abbrev turn_of : TurnPage → Turn
turn_of p = record { state = state_of p.state; cause = cause_of p.cause p.told }

turn-back : (t : Turn) → turn_of (turn_page t) ≡ t
turn-back t = rw (state-back t.state, cause-back t.cause)

abbrev pub first_back : FirstPage → Option FirstBlank
first_back (place p a) = Some (first_at p a)
first_back none = None

pub first-back : (f : Option FirstBlank) → first_back (first_page f) ≡ f
first-back (Some b) = refl
first-back None = refl

abbrev ran_of : RanPage → Ran
ran_of p = record { state = state_of p.state; tally = record { blanks = p.blanks; first = first_back p.first } }

ran-back : (r : Ran) → ran_of (ran_page r) ≡ r
ran-back r = rw (state-back r.state, first-back r.tally.first)

pub turn_one : (t u : Turn) → turn_page t ≡ turn_page u → t ≡ u
turn_one = one turn_of turn-back

pub ran-one : (r q : Ran) → ran_page r ≡ ran_page q → r ≡ q
ran-one = one ran_of ran-back

-- ---- one outcome

pub powered-one : (r q : Powered) → powered_page r ≡ powered_page q → r ≡ q
powered-one = page-one state-one

pub stepped-one : (r q : Stepped) → stepped_page r ≡ stepped_page q → r ≡ q
stepped-one = page-one turn_one

pub finished-one : (r q : Finished) → finished_page r ≡ finished_page q → r ≡ q
finished-one = page-one ran-one

pub one_power : (r q : Powered) (m n : List ℕ) → left (powered_page r) m ≡ left (powered_page q) n → (r ≡ q) × (m ≡ n)
one_power = one-call powered_page powered-one

pub one-step : (r q : Stepped) (m n : List ℕ) → left (stepped_page r) m ≡ left (stepped_page q) n → (r ≡ q) × (m ≡ n)
one-step = one-call stepped_page stepped-one

pub one-run : (r q : Finished) (m n : List ℕ) → left (finished_page r) m ≡ left (finished_page q) n → (r ≡ q) × (m ≡ n)
one-run = one-call finished_page finished-one
