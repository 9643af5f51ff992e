-- The terms in which the demands are stated.
use Rattle.std.specs.Prelude.{ℕ, ◌<◌, Bool, true, false, ◌&&◌, ◌||◌, cond, List, ◌≡◌, eqb, leb, ltb, length, take, get_or}
use Rattle.board.specs.Work.{value, run}
use Rattle.state.specs.declared.State.{State}
use Rattle.state.specs.declared.Settings.{Settings}
use Rattle.state.specs.declared.Outside.{Outside}
use Rattle.state.specs.declared.Mode.TheVariants.{Locked}
use Rattle.state.specs.State.{heard, with_mode}
use Rattle.step.specs.declared.Cause.TheVariants as Cause
use Rattle.step.specs.Step.{After, after, kind_of, work_of, error_cause_of, cause_number, is_blank}
use Rattle.step.specs.Step as Step
use Rattle.step.specs.Told.{accesses, StopsAt, trap_answered, is_blank_step}
use Rattle.step.specs.Locks.{LocksUp}
use Rattle.refusal.specs.Numbers.{output_short}
use Rattle.refusal.specs.Page.{first}
use Rattle.optext.specs.declared.Written.{Written}
use Rattle.optext.specs.Column.{IsText, Column, Why}
use Rattle.machine.specs.Numbers.{state_page, address, nowhere, TurnPage, FirstPage}
use Rattle.machine.specs.Trail.{trail_of, last_after, blanks_in, cause_at, Least}
use Rattle.machine_c.specs.Layout.{state_bytes, tally_bytes}

-- ---- demand 1

-- what a refused call tells beside its number: nothing, which leaves `alone`; or, where the number tells a place, a line or a column, that place.
-- x is what the call left
pub data OrPlace {A : Type 0} (tells : Bool) (IsPlace : ℕ → Type 0) (alone : A) (beside : ℕ → A) (x : A) : Type 0 where
  number_alone : tells ≡ false → x ≡ alone → OrPlace tells IsPlace alone beside x
  place_too : tells ≡ true → (place : ℕ) → IsPlace place → x ≡ beside place → OrPlace tells IsPlace alone beside x

-- 10: the words' buffer is under 3
abbrev pub words_why : List ℕ → ℕ
words_why ws = cond (ltb (length ws) 3) output_short 0

-- the number of a text by itself: 0 where it is an op code's; else 32, 31, 9 or 30, by where it goes wrong
pub data TextWhy (t : List ℕ) (n : ℕ) : Type 0 where
  is_text : n ≡ 0 → IsText t → TextWhy t n
  no_text : (c : ℕ) → (IsText t → ⊥) → Column t c → Why t c n → TextWhy t n

-- a text that is read: `lent_why` is the first refusal of what is lent, and where there is none, the text's own number counts; P holds of the number
pub record OwnWhy (lent_why : ℕ) (t : List ℕ) (P : ℕ → Type 0) : Type 0 where
  pub own : ℕ
  pub of_text : lent_why ≡ 0 → TextWhy t own
  pub holds : P (first lent_why own)

-- 9, and 30 to 32 tell a column
abbrev pub tells_column : ℕ → Bool
tells_column n = eqb n 9 || (leb 30 n && leb n 32)

-- ---- demand 2

-- a list of words, and a list of bytes, as every lent one is
abbrev pub AllWords : List ℕ → Type 0
AllWords ws = (i : ℕ) → get_or ws i 0 < 65536

abbrev pub AllBytes : List ℕ → Type 0
AllBytes b = (i : ℕ) → get_or b i 0 < 256

-- where the steps of a run before the place k end, from a state and an image
abbrev pub before_at : Settings → List ℕ → List ℕ → State → List ℕ → ℕ → After
before_at settings map lines s m k = last_after (after s m Cause.Nothing) (take k (trail_of settings map lines s m))

-- ---- demand 3. `out` is what a step hears: the board's settings and its line word. p is what the step answers, m' the image that it leaves

-- a cause that is a blank: 5 in an op code, 6 in an interrupt, 9 in a save
abbrev pub blank_cause : ℕ → Bool
blank_cause cause = eqb cause 5 || (eqb cause 6 || eqb cause 9)

-- what becomes of a step whose work is dropped since the address `at` did not answer
pub data BusErrorOrLock (map : List ℕ) (out : Outside) (s : State) (m : List ℕ) (at : ℕ) (p : TurnPage) (m' : List ℕ) : Type 0 where
  -- a bus error, told by its cause: the state t and the image n are those of the bus error's trap, from the state and the image before
  bus_error : (t : State) (n : List ℕ) → run map (Step.bus_error (kind_of s out) out s) m ≡ value t n → p.state ≡ state_page t → m' ≡ n
      → p.cause ≡ cause_number (error_cause_of (kind_of s out) at) → blank_cause p.cause ≡ true → BusErrorOrLock map out s m at p m'
  -- where the trap is not answered either, a lock-up: all is as before but the mode
  lock_up : trap_answered map out s m ≡ false → p.state ≡ state_page (with_mode s Locked) → m' ≡ m → p.cause ≡ 8 → BusErrorOrLock map out s m at p m'

-- a step that reaches an address which does not answer: it tells the first one, and is a bus error or a lock-up
pub record Blanked (map : List ℕ) (out : Outside) (s : State) (m : List ℕ) (p : TurnPage) (m' : List ℕ) : Type 0 where
  pub at : ℕ
  pub first_reached : StopsAt map at (accesses map (work_of (kind_of s out) out s) m)
  pub told : p.told ≡ address at
  pub ends : BusErrorOrLock map out s m at p m'

-- a step that reaches none: the state and the image are those of its work, it tells no address, and its cause is no blank; 8 only where it was locked before, or by the halt option
pub record Fitted (map : List ℕ) (out : Outside) (s : State) (m : List ℕ) (p : TurnPage) (m' : List ℕ) : Type 0 where
  pub next : State
  pub came : run map (work_of (kind_of s out) out s) m ≡ value next m'
  pub state : p.state ≡ state_page next
  pub told : p.told ≡ nowhere
  pub no_blank : blank_cause p.cause ≡ false
  pub lock : p.cause ≡ 8 → LocksUp out s.mode

-- the count of a run's blanks and the first of them: as many as steps with cause 5, 6 or 9, the least of their places with the address told
-- there; and the step at a place is one exactly where an access of its work is not answered, and the trap of its bus error is
pub record Counted (settings : Settings) (map lines : List ℕ) (s : State) (m : List ℕ) (blanks : ℕ) (place : FirstPage) : Type 0 where
  pub number : blanks ≡ blanks_in (trail_of settings map lines s m)
  pub least : Least (trail_of settings map lines s m) place
  pub each : (k : ℕ) → k < length lines
      → (let b = before_at settings map lines s m k in
      is_blank (cause_at (trail_of settings map lines s m) k) ≡ is_blank_step map (heard settings (get_or lines k 0)) b.state b.image)

-- the bytes that a call for C leaves are those of a step's answer, or of a run's tally, of which P holds
pub record StepBytes (b : List ℕ) (P : TurnPage → Type 0) : Type 0 where
  pub page : TurnPage
  pub bytes : b ≡ state_bytes page.state page.cause page.told
  pub holds : P page

pub record TallyBytes (t : List ℕ) (P : ℕ → FirstPage → Type 0) : Type 0 where
  pub blanks : ℕ
  pub place : FirstPage
  pub bytes : t ≡ tally_bytes blanks place
  pub holds : P blanks place

-- what the writer of a text answers: the line's length, and the words taken
abbrev pub written_line : ℕ → ℕ → Written
written_line n m = record { length = n; taken = m }
