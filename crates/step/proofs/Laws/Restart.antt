-- WHY CAUSE 7 IS NEVER GIVEN: a step that can't fetch 16 can't fetch 12 either. Both lie on page 0, and a read asks only that the page is fitted; so its bus error fails too, and it locks.
-- The same holds of all work that only reads page 0, and so of the end of a save.
use Prim.Native.Nat.{ℕ, ◌/◌}
use native.Mathlib.Omega.{arith}
use mathlib.Core.Bool.{Bool, true, false}
use mathlib.Core.List.{List}
use mathlib.Core.Path.{◌≡◌, refl, sym, ap, ◌∙◌}
use Rattle.board.specs.Work.{Work, Came, value, blank, run, fitted, writable, found, get, ◌>>=◌}
use Rattle.state.specs.declared.State.{State}
use Rattle.state.specs.declared.Outside.{Outside}
use Rattle.state.specs.declared.Mode.TheVariants.{Locked}
use Rattle.state.specs.State.{with_mode, ps_of}
use Rattle.state.specs.Stack.{push, push_both, from_loc, trap}
use Rattle.step.specs.declared.Kind.{Kind}
use Rattle.step.specs.declared.Cause.{Cause}
use Rattle.step.specs.declared.Cause.TheVariants.{LockedAt}
use Rattle.step.specs.Places.{save_place, pick_up, pick_up_four, pick_up_registers, restore_places}
use Rattle.step.specs.Step.{After, after, or_at, restart, past, kind_of, work_of, bus_error, error_cause_of, error_of, step_of}
use Rattle.step.proofs.Laws.Ends.{step-ill}
use Rattle.step.specs.Told.{Low, gives, reads}

-- the end of a halt, and the option that fetches from 16
pub restart-low : (s : State) → Low (restart s)
unfolding from_loc ◌>>=◌
restart-low s = reads _ 0x16 refl (λ v. gives _)

low-then : {A B : Type 0} {w : Work A} {f : A → Work B} → Low w → ((x : A) → Low (f x)) → Low (w >>= f)
unfolding ◌>>=◌
low-then (gives x) g = g x
low-then (reads z a e h) g = reads z a e (λ v. low-then (h v) g)

pick-up-low : (s : State) (k : ℕ) → save_place k / 256 ≡ 0 → Low (pick_up s k)
unfolding pick_up ◌>>=◌
pick-up-low s k e = reads _ (save_place k) e (λ v. gives _)

pick-up-four-low : (s : State) (h i j k : ℕ) → save_place h / 256 ≡ 0 → save_place i / 256 ≡ 0 → save_place j / 256 ≡ 0 → save_place k / 256 ≡ 0 → Low (pick_up_four s h i j k)
unfolding pick_up_four
pick-up-four-low s h i j k a b c d =
    low-then (pick-up-low s h a) λ s.
    low-then (pick-up-low s i b) λ s.
    low-then (pick-up-low s j c) λ s.
    pick-up-low s k d

-- the places, picked up at the end of a save and by an option of the power-up
pub restore-low : (s : State) → Low (restore_places s)
unfolding restore_places pick_up_registers
restore-low s =
    low-then (low-then (pick-up-four-low s 0 1 2 3 refl refl refl refl) (λ s. pick-up-four-low s 4 5 6 7 refl refl refl refl)) λ s.
    low-then (reads _ (save_place 8) refl (λ v. gives v)) λ ps.
    gives _

-- 12 lies on page 0
pub same-page : (map : List ℕ) (a : ℕ) → a / 256 ≡ 0 → fitted map a ≡ fitted map 0x12
unfolding fitted
same-page map a e = rw e

-- a blank there found the page unfitted
found-blank : {A : Type 0} (b : Bool) (x : ℕ) {c : Came A} {a : ℕ} → found b x c ≡ blank a → (c ≡ blank a → b ≡ false) → b ≡ false
found-blank true x h g = g h
found-blank false x h g = refl

pub low-unfitted : {A : Type 0} (map : List ℕ) {w : Work A} (m : List ℕ) {a : ℕ} → Low w → run map w m ≡ blank a → fitted map 0x12 ≡ false
unfolding run
low-unfitted map m (gives x) h = let z : ◌≡◌ {A = ℕ} 0 1 = cc in absurd (omega arith)
low-unfitted map m (reads z x e g) h =
    let same = same-page map x e in
    sym same ∙ found-blank (fitted map x) x h (λ i. same ∙ low-unfitted map m (g (get z m x)) i)

-- whether work came to a value
abbrev done : Came State → Bool
done (value s m) = true
done (blank a) = false

found-not : (b : Bool) (a : ℕ) (c : Came State) → done c ≡ false → done (found b a c) ≡ false
found-not true a c e = e
found-not false a c e = refl

found-unfitted : (b : Bool) (a : ℕ) (c : Came State) → b ≡ false → done (found b a c) ≡ false
found-unfitted true a c e = let z : ◌≡◌ {A = ℕ} 0 1 = cc in absurd (omega arith)
found-unfitted false a c e = refl

-- a trap whose location can't be read fails, wherever the stack lies
trap-fails : (map : List ℕ) (s : State) (ps at : ℕ) (m : List ℕ) → fitted map at ≡ false → done (run map (trap s ps at) m) ≡ false
unfolding run trap push_both push from_loc ◌>>=◌
trap-fails map s ps at m e = found-not (writable map _) _ _ (found-not (writable map _) _ _ (found-unfitted (fitted map at) at _ e))

module _ (map : List ℕ) (k : Kind) (out : Outside) (s : State) (m : List ℕ) {w : Work State} {a : ℕ} where
  error-fails : Low w → run map w m ≡ blank a → done (run map (bus_error k out s) m) ≡ false
  unfolding bus_error
  error-fails l h = trap-fails map (past k s) (ps_of out true (past k s)) 0x12 m (low-unfitted map m l h)

  -- after such work the bus error's trap never succeeds
  pub never-trapped : {t : State} {n : List ℕ} → Low w → run map w m ≡ blank a → run map (bus_error k out s) m ≡ value t n → true ≡ false
  never-trapped l h g = sym (ap done g) ∙ error-fails l h

else-not : (c : Came State) (k : Cause) (r : After) → done c ≡ false → or_at c k (λ _. r) ≡ r
else-not (value s m) k r e = let z : ◌≡◌ {A = ℕ} 0 1 = cc in absurd (omega arith)
else-not (blank a) k r e = refl

-- A STEP THAT CAN'T FETCH 16 LOCKS, and so does any whose work reads page 0 alone, with the address that it reached
pub low-locks : (map : List ℕ) (out : Outside) (s : State) (m : List ℕ) {a : ℕ}
    → Low (work_of (kind_of s out) out s) → run map (work_of (kind_of s out) out s) m ≡ blank a → step_of map out s m ≡ after (with_mode s Locked) m (LockedAt a)
unfolding error_of
low-locks map out s m {a} l h =
    let k = kind_of s out in
    sym (step-ill map out s m refl h refl refl)
    ∙ else-not (run map (bus_error k out s) m) (error_cause_of k a) (after (with_mode s Locked) m (LockedAt a)) (error-fails map k out s m l h)
