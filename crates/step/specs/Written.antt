-- What a step writes: the addresses of its accesses that write, in order; and the log, which tells them after the step.
use Rattle.std.specs.Prelude.{ℕ, zero, suc, ◌+◌, ◌*◌, List, [], ◌∷◌, ◌++◌, ◌≡◌, get_or}
use Rattle.board.specs.Work.{Work, Came, value, blank, run}
use Rattle.board.specs.Exec.{Store, Board, log_count}
use Rattle.state.specs.declared.State.{State}
use Rattle.state.specs.declared.Outside.{Outside}
use Rattle.step.specs.declared.Kind.{Kind}
use Rattle.step.specs.declared.Turn.{Turn}
use Rattle.step.specs.Step.{After, kind_of, work_of, bus_error, turn_of}
use Rattle.step.specs.Told.{Access, reads, writes, accesses}

-- ---- the addresses that are written

unfoldable pub writes_of : List Access → List ℕ
writes_of [] = []
writes_of (reads a ∷ xs) = writes_of xs
writes_of (writes a ∷ xs) = a ∷ writes_of xs

-- by work, on a map and an image
abbrev pub written_by : {A : Type 0} → List ℕ → Work A → List ℕ → List ℕ
written_by map w m = writes_of (accesses map w m)

-- those of work that is answered, or else others
abbrev pub or_else_writes : Came State → List ℕ → List ℕ → List ℕ
or_else_writes (value s m) ws others = ws
or_else_writes (blank a) ws others = others

-- by a bus error's trap; where that is not answered nothing stays written
unfoldable pub error_writes : List ℕ → Kind → Outside → State → List ℕ → List ℕ
error_writes map k out s m = or_else_writes (run map (bus_error k out s) m) (written_by map (bus_error k out s) m) []

-- by a step
unfoldable pub step_writes : List ℕ → Outside → State → List ℕ → List ℕ
step_writes map out s m =
    let k = kind_of s out in
    or_else_writes (run map (work_of k out s) m) (written_by map (work_of k out s) m) (error_writes map k out s m)

-- ---- the log

-- the addresses of its first n entries
unfoldable pub entries : ℕ → List ℕ → List ℕ
entries zero l = []
entries (suc n) l = entries n l ++ (get_or l (n * 2 + 1) 0 ∷ [])

-- of all its entries
abbrev pub addresses : List ℕ → List ℕ
addresses l = entries (log_count l) l

-- ---- what a step promises that leaves its log

pub record LoggedStep (map : List ℕ) (a : After) (ws : List ℕ) (r : Turn) (st : Store) : Type 0 where
  pub turn : turn_of r st.image ≡ a
  pub wrote : addresses st.log ≡ ws
  pub board : Board map st
