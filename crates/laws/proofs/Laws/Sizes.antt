-- The image keeps its length: by work that comes to a value, by a step, and to the end of a trail.
use Prim.Native.Nat.{ℕ}
use mathlib.Core.List.{List, [], ◌∷◌}
use mathlib.Core.Path.{◌≡◌, refl, ◌∙◌}
use lib.ListN.{length}
use Rattle.board.specs.Work.{Work, give, read_at, write_at, Came, value, blank, fitted, writable, get, put, run}
use Rattle.board.proofs.Laws.{size-put}
use Rattle.board.proofs.Laws.Alike.{found-value}
use Rattle.state.specs.declared.State.{State}
use Rattle.state.specs.declared.Outside.{Outside}
use Rattle.state.specs.declared.Settings.{Settings}
use Rattle.state.specs.State.{heard}
use Rattle.step.specs.declared.Cause.{Cause}
use Rattle.step.specs.Step.{After, after, step_of, error_of, or_at, kind_of, work_of, bus_error, cause_of, error_cause_of}
use Rattle.machine.specs.Trail.{trail_of, last_after}

value-size : {A : Type 0} (map : List ℕ) (w : Work A) (m : List ℕ) (x : A) (n : List ℕ) → run map w m ≡ value x n → length n ≡ length m
unfolding run
value-size map (give y) m x n h = let same : m ≡ n = cc in rw same
value-size map (read_at z a k) m x n h =
    value-size map (k (get z m a)) m x n (found-value (fitted map a) a (run map (k (get z m a)) m) x n h).1
value-size map (write_at z a v w) m x n h =
    value-size map w (put z m a v) x n (found-value (writable map a) a (run map w (put z m a v)) x n h).1 ∙ size-put z m a v

or-size : (map m : List ℕ) (w : Work State) (k : Cause) (other : ℕ → After) → ((x : ℕ) → length (other x).image ≡ length m) → length (or_at (run map w m) k other).image ≡ length m
or-size map m w k other h = came (run map w m) refl
  where
    came : (c : Came State) → run map w m ≡ c → length (or_at c k other).image ≡ length m
    came (value s n) e = value-size map w m s n e
    came (blank a) e = h a

step-size : (map : List ℕ) (out : Outside) (s : State) (m : List ℕ) → length (step_of map out s m).image ≡ length m
unfolding step_of error_of
step-size map out s m =
    let k = kind_of s out in
    or-size map m (work_of k out s) (cause_of k) _ (λ a. or-size map m (bus_error k out s) (error_cause_of k a) _ (λ _. refl))

pub trail-size : (settings : Settings) (map lines : List ℕ) (s : State) (m : List ℕ) (c : Cause) → length (last_after (after s m c) (trail_of settings map lines s m)).image ≡ length m
unfolding trail_of
trail-size settings map [] s m c = refl
trail-size settings map (x ∷ xs) s m c =
    let a = step_of map (heard settings x) s m in
    trail-size settings map xs a.state a.image a.cause ∙ step-size map (heard settings x) s m
