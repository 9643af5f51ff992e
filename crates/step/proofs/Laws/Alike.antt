-- Demand 3 over the definitions, for a step: what stands at unfitted addresses can influence nothing.
use Prim.Native.Nat.{ℕ}
use mathlib.Core.List.{List}
use mathlib.Core.Path.{◌≡◌, refl}
use lib.ListN.{length, get_or}
use Rattle.board.specs.Work.{Work, Came, value, blank, run, Agree, Untouched}
use Rattle.board.proofs.Laws.Alike.{Alike, both, neither}
use Rattle.board.proofs.Laws.Alike.{alike, kept}
use Rattle.state.specs.declared.State.{State}
use Rattle.state.specs.declared.Outside.{Outside}
use Rattle.state.specs.declared.Settings.{Settings}
use Rattle.state.specs.State.{cleared, heard}
use Rattle.step.specs.declared.Cause.{Cause}
use Rattle.step.specs.Step.{After, step_of, error_of, or_at, Up, or_locked, power_up_option, power_up_of, kind_of, work_of, bus_error, cause_of, error_cause_of}

-- ---- two images that agree on fitted bytes

pub record Same (map : List ℕ) (a b : After) : Type 0 where
  pub state : a.state ≡ b.state
  pub cause : a.cause ≡ b.cause
  pub size : length a.image ≡ length b.image
  pub agree : Agree map a.image b.image

or_same : (map : List ℕ) {x y : Came State} (k : Cause) {p q : ℕ → After} → Alike map x y → ((a : ℕ) → Same map (p a) (q a)) → Same map (or_at x k p) (or_at y k q)
or_same map k (both l g) h = record { state = refl; cause = refl; size = l; agree = g }
or_same map k (neither {a}) h = h a

-- the same state, the same cause with the address that it tells, and images that agree again
pub step-alike : (map : List ℕ) (out : Outside) (s : State) (m n : List ℕ) → length m ≡ length n → Agree map m n → Same map (step_of map out s m) (step_of map out s n)
unfolding step_of error_of
step-alike map out s m n l g =
    let k = kind_of s out in
    or_same map (cause_of k) (alike map (work_of k out s) m n l g)
    (λ a. or_same map (error_cause_of k a) (alike map (bus_error k out s) m n l g) (λ _. record { state = refl; cause = refl; size = l; agree = g }))

-- the same state after power-up, and images that agree again
pub record SameUp (map : List ℕ) (a b : Up) : Type 0 where
  pub state : a.state ≡ b.state
  pub size : length a.image ≡ length b.image
  pub agree : Agree map a.image b.image

or-locked : (map : List ℕ) {x y : Came State} (m n : List ℕ) → length m ≡ length n → Agree map m n → Alike map x y → SameUp map (or_locked x m) (or_locked y n)
or-locked map m n l g (both h e) = record { state = refl; size = h; agree = e }
or-locked map m n l g neither = record { state = refl; size = l; agree = g }

pub power-alike : (settings : Settings) (map m n : List ℕ) → length m ≡ length n → Agree map m n → SameUp map (power_up_of settings map m) (power_up_of settings map n)
unfolding power_up_of
power-alike settings map m n l g = or-locked map m n l g (alike map (work_of (power_up_option settings) (heard settings 0) cleared) m n l g)

-- ---- bytes of unfitted and of read-only pages come back as lent

or-untouched : (map m : List ℕ) (w : Work State) (k : Cause) (other : ℕ → After) → ((x : ℕ) → Untouched map m (other x).image) → Untouched map m (or_at (run map w m) k other).image
or-untouched map m w k other h a e = came (run map w m) refl
  where
    came : (c : Came State) → run map w m ≡ c → get_or (or_at c k other).image a 0 ≡ get_or m a 0
    came (value s n) r = kept map w m s n r a e
    came (blank x) r = h x a e

pub step-untouched : (map : List ℕ) (out : Outside) (s : State) (m : List ℕ) → Untouched map m (step_of map out s m).image
unfolding step_of error_of
step-untouched map out s m =
    let k = kind_of s out in
    or-untouched map m (work_of k out s) (cause_of k) _ (λ x. or-untouched map m (bus_error k out s) (error_cause_of k x) _ (λ _ a e. refl))

pub power-untouched : (settings : Settings) (map m : List ℕ) → Untouched map m (power_up_of settings map m).image
unfolding power_up_of
power-untouched settings map m a e = came (run map w m) refl
  where
    w : Work State
    w = work_of (power_up_option settings) (heard settings 0) cleared

    came : (c : Came State) → run map w m ≡ c → get_or (or_locked c m).image a 0 ≡ get_or m a 0
    came (value s n) r = kept map w m s n r a e
    came (blank x) r = refl
