-- Which address a step tells: that of the first access, in the manual's order, that finds nothing fitted; in the work that is dropped, never in the trap.
use Prim.Native.Nat.{ℕ}
use native.Mathlib.Omega.{arith}
use mathlib.Core.Bool.{Bool, true, false, not, ◌&&◌, cond, true≢false}
use mathlib.Core.List.{List, [], ◌∷◌}
use mathlib.Core.Path.{◌≡◌, refl, sym, ap, ◌∙◌, subst}
use Rattle.board.specs.Work.{Work, give, read_at, write_at, Came, value, blank, found, fitted, writable, get, put, run}
use Rattle.state.specs.declared.State.{State}
use Rattle.state.specs.declared.Outside.{Outside}
use Rattle.state.specs.declared.Mode.TheVariants.{Locked}
use Rattle.state.specs.State.{with_mode}
use Rattle.step.specs.declared.Kind.{Kind}
use Rattle.step.specs.declared.Kind.TheVariants.{OpCode, HaltEnd, Boots, Saves, LocksUp, Restarts, Restores, NonVectored, Vectored, Waits, Stuck}
use Rattle.step.specs.declared.Cause.TheVariants.{LockedAt}
use Rattle.std.specs.Prelude.{Some, None}
use Rattle.step.specs.Step.{After, after, cause_address, is_blank, cause_of, error_cause_of, kind_of, work_of, bus_error, or_at, error_of, step_of}
use Rattle.step.proofs.Laws.Ends.{step-well}
use Rattle.step.proofs.Laws.Causes.{blank-error, blank-counted, value-no-blank}
use Rattle.step.specs.Told.{Access, reads, writes, reached, answered, accesses, all_answered, StopsAt, here, later, work_answered, trap_answered, is_blank_step}

-- ---- the accesses of work, in order

found-stops : {A : Type 0} {map : List ℕ} {a : ℕ} (x : Access) (b : Bool) {y : Came A} {xs : List Access}
    → answered map x ≡ b → found b (reached x) y ≡ blank a → (y ≡ blank a → StopsAt map a xs) → StopsAt map a (x ∷ cond b xs [])
found-stops x true e h g = later e (g h)
found-stops {a = a} x false e h g = let same : reached x ≡ a = cc in here same e

-- Work that comes to a blank stops there.
pub stops : {A : Type 0} (map : List ℕ) (w : Work A) (m : List ℕ) {a : ℕ} → run map w m ≡ blank a → StopsAt map a (accesses map w m)
unfolding run accesses
stops map (give x) m h = let z : ◌≡◌ {A = ℕ} 0 1 = cc in absurd (omega arith)
stops map (read_at z b k) m h = found-stops (reads b) (fitted map b) refl h (λ e. stops map (k (get z m b)) m e)
stops map (write_at z b v w) m h = found-stops (writes b) (writable map b) refl h (λ e. stops map w (put z m b v) e)

-- ---- WORK COMES TO A VALUE EXACTLY WHERE EVERY ACCESS IS ANSWERED, and to a blank where one is not

abbrev pub is_value : {A : Type 0} → Came A → Bool
is_value (value x m) = true
is_value (blank a) = false

found-answered : {A : Type 0} (map : List ℕ) (x : Access) (b : Bool) (a : ℕ) (y : Came A) (xs : List Access)
    → answered map x ≡ b → all_answered map xs ≡ is_value y → all_answered map (x ∷ cond b xs []) ≡ is_value (found b a y)
unfolding all_answered
found-answered map x true a y xs e h = ap (λ (z : Bool). z && all_answered map xs) e ∙ h
found-answered map x false a y xs e h = ap (λ (z : Bool). z && all_answered map []) e

pub reaches : {A : Type 0} (map : List ℕ) (w : Work A) (m : List ℕ) → all_answered map (accesses map w m) ≡ is_value (run map w m)
unfolding run accesses all_answered
reaches map (give x) m = refl
reaches map (read_at z a k) m = found-answered map (reads a) (fitted map a) a (run map (k (get z m a)) m) (accesses map (k (get z m a)) m) refl (reaches map (k (get z m a)) m)
reaches map (write_at z a v w) m = found-answered map (writes a) (writable map a) a (run map w (put z m a v)) (accesses map w (put z m a v)) refl (reaches map w (put z m a v))

-- ---- what a step tells

pub told-in-none : (k : Kind) → cause_address (cause_of k) ≡ None
told-in-none OpCode = refl
told-in-none HaltEnd = refl
told-in-none Boots = refl
told-in-none Saves = refl
told-in-none LocksUp = refl
told-in-none Restarts = refl
told-in-none Restores = refl
told-in-none NonVectored = refl
told-in-none Vectored = refl
told-in-none Waits = refl
told-in-none Stuck = refl

pub told-in-error : (k : Kind) (a : ℕ) → cause_address (error_cause_of k a) ≡ Some a
told-in-error OpCode a = refl
told-in-error HaltEnd a = refl
told-in-error Boots a = refl
told-in-error Saves a = refl
told-in-error LocksUp a = refl
told-in-error Restarts a = refl
told-in-error Restores a = refl
told-in-error NonVectored a = refl
told-in-error Vectored a = refl
told-in-error Waits a = refl
told-in-error Stuck a = refl

-- whatever the trap comes to
trap-tells : (c : Came State) (k : Kind) (a : ℕ) (other : After) → cause_address other.cause ≡ Some a → cause_address (or_at c (error_cause_of k a) (λ _. other)).cause ≡ Some a
trap-tells (value t n) k a other h = told-in-error k a
trap-tells (blank b) k a other h = h

module _ (map : List ℕ) (out : Outside) (s : State) (m : List ℕ) where
  -- Work that is done tells none.
  pub tells_none : {t : State} {n : List ℕ} → run map (work_of (kind_of s out) out s) m ≡ value t n → cause_address (step_of map out s m).cause ≡ None
  tells_none h = ap (λ a. cause_address a.cause) (sym (step-well map out s m refl h refl)) ∙ told-in-none (kind_of s out)

  -- Work that is dropped tells where it stopped, whether the trap succeeds or the step locks.
  pub tells : {a : ℕ} → run map (work_of (kind_of s out) out s) m ≡ blank a → cause_address (step_of map out s m).cause ≡ Some a
  unfolding error_of
  tells {a} h =
      let k = kind_of s out in
      ap (λ r. cause_address r.cause) (blank-error map out s m h) ∙ trap-tells (run map (bus_error k out s) m) k a (after (with_mode s Locked) m (LockedAt a)) refl

  -- THE ADDRESS TOLD: the step's work reached it and it was not answered, and every access before it was.
  pub told : {a : ℕ} → cause_address (step_of map out s m).cause ≡ Some a → StopsAt map a (accesses map (work_of (kind_of s out) out s) m)
  told {a} h = came (run map (work_of (kind_of s out) out s) m) refl
    where
      came : (c : Came State) → run map (work_of (kind_of s out) out s) m ≡ c → StopsAt map a (accesses map (work_of (kind_of s out) out s) m)
      came (value t n) r = let none : None ≡ Some a = sym (tells_none r) ∙ h in let z : ◌≡◌ {A = ℕ} 0 1 = cc in absurd (omega arith)
      came (blank b) r = let some : Some b ≡ Some a = sym (tells r) ∙ h in let same : b ≡ a = cc in subst (λ (x : ℕ). StopsAt map x (accesses map (work_of (kind_of s out) out s) m)) same (stops map _ m r)

-- ---- WHAT BECOMES OF A STEP, by its accesses and those of its bus error's trap

module _ (map : List ℕ) (out : Outside) (s : State) (m : List ℕ) where
  -- the work is done: the state, the image and the cause are its own
  pub data WorkDone : After → Type 0 where
    done : (t : State) (n : List ℕ) → run map (work_of (kind_of s out) out s) m ≡ value t n → WorkDone (after t n (cause_of (kind_of s out)))

  -- the work is dropped, and the first address that did not answer is told: a bus error, whose trap from the state before gives the state and the image; or, where that is not answered either, all is as before but the mode, which is locked
  pub data Dropped : After → Type 0 where
    trapped : (a : ℕ) → StopsAt map a (accesses map (work_of (kind_of s out) out s) m) → (t : State) (n : List ℕ) → run map (bus_error (kind_of s out) out s) m ≡ value t n
        → is_blank (error_cause_of (kind_of s out) a) ≡ true → Dropped (after t n (error_cause_of (kind_of s out) a))
    locked : (a : ℕ) → StopsAt map a (accesses map (work_of (kind_of s out) out s) m) → trap_answered map out s m ≡ false → Dropped (after (with_mode s Locked) m (LockedAt a))

  pub step-done : work_answered map out s m ≡ true → WorkDone (step_of map out s m)
  step-done h = came (run map (work_of (kind_of s out) out s) m) refl
    where
      came : (c : Came State) → run map (work_of (kind_of s out) out s) m ≡ c → WorkDone (step_of map out s m)
      came (value t n) r = subst (λ (x : After). WorkDone x) (step-well map out s m refl r refl) (done t n r)
      came (blank a) r = absurd (true≢false (sym h ∙ reaches map (work_of (kind_of s out) out s) m ∙ ap is_value r))

  pub step-dropped : work_answered map out s m ≡ false → Dropped (step_of map out s m)
  unfolding error_of
  step-dropped h = came (run map (work_of (kind_of s out) out s) m) refl (run map (bus_error (kind_of s out) out s) m) refl
    where
      came : (c : Came State) → run map (work_of (kind_of s out) out s) m ≡ c → (d : Came State) → run map (bus_error (kind_of s out) out s) m ≡ d → Dropped (step_of map out s m)
      came (value t n) r d q = absurd (true≢false (sym (ap is_value r) ∙ sym (reaches map (work_of (kind_of s out) out s) m) ∙ h))
      came (blank a) r (value t n) q =
          let e : step_of map out s m ≡ after t n (error_cause_of (kind_of s out) a) =
          blank-error map out s m r ∙ ap (λ c. or_at c (error_cause_of (kind_of s out) a) (λ _. after (with_mode s Locked) m (LockedAt a))) q in
          subst (λ (x : After). Dropped x) (sym e) (trapped a (stops map _ m r) t n q (ap (λ (x : After). is_blank x.cause) (sym e) ∙ (blank-counted map out s m {b = 0} r).0 t n q))
      came (blank a) r (blank b) q =
          subst (λ (x : After). Dropped x) (sym ((blank-counted map out s m r).1 q)) (locked a (stops map _ m r) (reaches map (bus_error (kind_of s out) out s) m ∙ ap is_value q))

  -- IT IS COUNTED AS A BLANK exactly where an access of its work is not answered, and every access of the trap is
  pub step-counted : is_blank (step_of map out s m).cause ≡ is_blank_step map out s m
  step-counted = came (run map (work_of (kind_of s out) out s) m) refl (run map (bus_error (kind_of s out) out s) m) refl
    where
      w : work_answered map out s m ≡ is_value (run map (work_of (kind_of s out) out s) m)
      w = reaches map (work_of (kind_of s out) out s) m

      u : trap_answered map out s m ≡ is_value (run map (bus_error (kind_of s out) out s) m)
      u = reaches map (bus_error (kind_of s out) out s) m

      dropped : {a : ℕ} → run map (work_of (kind_of s out) out s) m ≡ blank a → is_blank_step map out s m ≡ is_value (run map (bus_error (kind_of s out) out s) m)
      dropped r = ap (λ (z : Bool). not z && trap_answered map out s m) (w ∙ ap is_value r) ∙ u

      came : (c : Came State) → run map (work_of (kind_of s out) out s) m ≡ c → (d : Came State) → run map (bus_error (kind_of s out) out s) m ≡ d → is_blank (step_of map out s m).cause ≡ is_blank_step map out s m
      came (value t n) r d q = value-no-blank map out s m r ∙ sym (ap (λ (z : Bool). not z && trap_answered map out s m) (w ∙ ap is_value r))
      came (blank a) r (value t n) q = (blank-counted map out s m {b = 0} r).0 t n q ∙ sym (dropped r ∙ ap is_value q)
      came (blank a) r (blank b) q = ap (λ (x : After). is_blank x.cause) ((blank-counted map out s m r).1 q) ∙ sym (dropped r ∙ ap is_value q)
