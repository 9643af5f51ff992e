-- Which address a step tells: that of the first access, in the manual's order, that finds nothing fitted; in the work that is dropped, never in the trap.
use Rattle.std.specs.Prelude.{ℕ, ◌/◌, Bool, true, false, not, ◌&&◌, cond, List, [], ◌∷◌, ◌≡◌}
use Rattle.board.specs.Work.{Work, give, read_at, write_at, fitted, writable, get, put, Size}
use Rattle.state.specs.declared.State.{State}
use Rattle.state.specs.declared.Outside.{Outside}
use Rattle.step.specs.Step.{kind_of, work_of, bus_error}

-- ---- the accesses of work, in order

pub data Access : Type 0 where
  reads : ℕ → Access
  writes : ℕ → Access

-- the address that it reaches, as it was given, bit 0 included
abbrev pub reached : Access → ℕ
reached (reads a) = a
reached (writes a) = a

-- it finds something there
abbrev pub answered : List ℕ → Access → Bool
answered map (reads a) = fitted map a
answered map (writes a) = writable map a

-- those that are made on a map and an image: after one that is not answered there is none
unfoldable pub accesses : {A : Type 0} → List ℕ → Work A → List ℕ → List Access
accesses map (give x) m = []
accesses map (read_at z a k) m = reads a ∷ cond (fitted map a) (accesses map (k (get z m a)) m) []
accesses map (write_at z a v w) m = writes a ∷ cond (writable map a) (accesses map w (put z m a v)) []

-- every one of them is answered
unfoldable pub all_answered : List ℕ → List Access → Bool
all_answered map [] = true
all_answered map (x ∷ xs) = answered map x && all_answered map xs

-- the last reaches a and is not answered; all before it are
pub data StopsAt (map : List ℕ) (a : ℕ) : List Access → Type 0 where
  here : {x : Access} → reached x ≡ a → answered map x ≡ false → StopsAt map a (x ∷ [])
  later : {x : Access} {xs : List Access} → answered map x ≡ true → StopsAt map a xs → StopsAt map a (x ∷ xs)

-- ---- a step's accesses

-- every access of the step's work is answered
abbrev pub work_answered : List ℕ → Outside → State → List ℕ → Bool
work_answered map out s m = all_answered map (accesses map (work_of (kind_of s out) out s) m)

-- every access of its bus error's trap, from the state before it, is answered
abbrev pub trap_answered : List ℕ → Outside → State → List ℕ → Bool
trap_answered map out s m = all_answered map (accesses map (bus_error (kind_of s out) out s) m)

-- a blank: an access of the work is not answered, and the bus error's trap succeeds
abbrev pub is_blank_step : List ℕ → Outside → State → List ℕ → Bool
is_blank_step map out s m = not (work_answered map out s m) && trap_answered map out s m

-- ---- page 0, where 12 and 16 lie

-- work that reads page 0 and nothing else
pub data Low {A : Type 0} : Work A → Type 0 where
  gives : (x : A) → Low (give x)
  reads : (z : Size) (a : ℕ) {k : ℕ → Work A} → a / 256 ≡ 0 → ((v : ℕ) → Low (k v)) → Low (read_at z a k)
