-- Laws of specs/Locks.antt.
use Prim.Native.Nat.{ℕ, zero, suc, ◌/◌}
use native.Mathlib.Omega.{arith}
use mathlib.Core.Bool.{Bool, true, false, cond, true≢false}
use mathlib.Core.List.{List, [], ◌∷◌}
use mathlib.Core.Path.{◌≡◌, refl, sym, ap, ◌∙◌, subst}
use lib.ListN.{get_or}
use Rattle.board.specs.Work.{Came, value, blank, run, fitted, ◌>>=◌}
use Rattle.state.specs.declared.State.{State}
use Rattle.state.specs.declared.Outside.{Outside}
use Rattle.state.specs.declared.Mode.{Mode}
use Rattle.state.specs.State.{with_mode}
use Rattle.state.specs.Stack.{from_loc}
use Rattle.step.specs.declared.Kind.{Kind}
use Rattle.step.specs.declared.Kind.TheVariants.{OpCode, HaltEnd, Boots, Saves, Restarts, Restores, NonVectored, Vectored, Waits, Stuck}
use Rattle.step.specs.declared.Cause.TheVariants.{LockedAt}
use Rattle.step.specs.Places.{pick_up, pick_up_four, pick_up_registers, restore_places}
use Rattle.step.specs.Step.{after, cause_number, cause_of, hears, kind_in, kind_of, halt_option, work_of, step_of}
use Rattle.step.specs.Told.{work_answered, Low}
use Rattle.step.specs.Locks.{Fetches, halt_end, restarts, restores, LocksUp, before, by_option}
use Rattle.step.proofs.Laws.Restart.{restart-low, restore-low, same-page, low-unfitted, low-locks}
use Rattle.step.proofs.Laws.Told.{is_value, reaches}

-- ---- A STEP THAT CAN'T FETCH 16, OR PICK UP THE NINE PLACES, LOCKS

low-work : {k : Kind} {a : ℕ} → Fetches k a → (out : Outside) (s : State) → Low (work_of k out s)
unfolding work_of
low-work halt_end out s = restart-low s
low-work restarts out s = restart-low s
low-work restores out s = restore-low s

low-page : {k : Kind} {a : ℕ} → Fetches k a → a / 256 ≡ 0
low-page halt_end = refl
low-page restarts = refl
low-page restores = refl

first-blank : {k : Kind} {a : ℕ} → Fetches k a → (map : List ℕ) (out : Outside) (s : State) (m : List ℕ) → fitted map a ≡ false → run map (work_of k out s) m ≡ blank a
unfolding work_of run from_loc restore_places pick_up_registers pick_up_four pick_up ◌>>=◌
first-blank halt_end map out s m e = rw e refl
first-blank restarts map out s m e = rw e refl
first-blank restores map out s m e = rw e refl

pub cant-fetch : (map : List ℕ) (out : Outside) (s : State) (m : List ℕ) {k : Kind} {a : ℕ} → Fetches k a → kind_of s out ≡ k → work_answered map out s m ≡ false
    → step_of map out s m ≡ after (with_mode s Mode.Locked) m (LockedAt a)
cant-fetch map out s m {k} {a} x e h =
    let w = work_of (kind_of s out) out s in
    let l : Low w = subst (λ (z : Kind). Low (work_of z out s)) (sym e) (low-work x out s) in
    let f : fitted map a ≡ false = same-page map a (low-page x) ∙ came l (run map w m) refl (sym (reaches map w m) ∙ h) in
    low-locks map out s m l (ap (λ (z : Kind). run map (work_of z out s) m) e ∙ first-blank x map out s m f)
  where
    came : Low (work_of (kind_of s out) out s) → (c : Came State) → run map (work_of (kind_of s out) out s) m ≡ c → is_value (run map (work_of (kind_of s out) out s) m) ≡ false → fitted map 0x12 ≡ false
    came l (value t n) r g = absurd (true≢false (sym (ap is_value r) ∙ g))
    came l (blank b) r g = low-unfitted map m l r

-- ---- A STEP WHOSE WORK IS DONE AND WHICH ANSWERS 8 was locked before, or is locked by the halt option

-- 1 for the lock-up option, 2 for a step from locked, 0 for every other
abbrev rank : Kind → ℕ
rank OpCode = 0
rank HaltEnd = 0
rank Boots = 0
rank Saves = 0
rank Kind.LocksUp = 1
rank Restarts = 0
rank Restores = 0
rank NonVectored = 0
rank Vectored = 0
rank Waits = 0
rank Stuck = 2

option-locks : {out : Outside} {mode : Mode} (i3 : Bool) (h : ℕ) (other : Kind) → rank other ≡ 0 → (rank (cond i3 (get_or (Boots ∷ Saves ∷ Kind.LocksUp ∷ Restarts ∷ []) h Restarts) other) ≡ 0 → ⊥)
    → out.i3 ≡ i3 → out.settings.halt ≡ h → LocksUp out mode
option-locks true zero other e n i j = absurd (n refl)
option-locks true (suc zero) other e n i j = absurd (n refl)
option-locks true (suc (suc zero)) other e n i j = by_option i j
option-locks true (suc (suc (suc zero))) other e n i j = absurd (n refl)
option-locks true (suc (suc (suc (suc h)))) other e n i j = absurd (n refl)
option-locks false h other e n i j = absurd (n e)

heard-none : (hearing i1 i0 : Bool) (other : Kind) → rank other ≡ 0 → rank (cond hearing (cond i1 NonVectored (cond i0 Vectored other)) other) ≡ 0
heard-none true true i0 other e = refl
heard-none true false true other e = refl
heard-none true false false other e = e
heard-none false i1 i0 other e = e

neither : (b : Bool) (x y : Kind) → rank x ≡ 0 → rank y ≡ 0 → rank (cond b x y) ≡ 0
neither true x y e d = e
neither false x y e d = d

kind-locks : (mode : Mode) (hearing : Bool) (out : Outside) → (rank (kind_in mode hearing out) ≡ 0 → ⊥) → LocksUp out mode
unfolding kind_in halt_option
kind-locks Mode.Running hearing out n = option-locks out.i3 out.settings.halt _ (heard-none hearing out.i1 out.i0 OpCode refl) n refl refl
kind-locks Mode.Waiting hearing out n = option-locks out.i3 out.settings.halt _ (heard-none hearing out.i1 out.i0 Waits refl) n refl refl
kind-locks Mode.PowerHalt hearing out n = absurd (n (neither out.fail Waits HaltEnd refl refl))
kind-locks Mode.SwitchHalt hearing out n = option-locks out.i3 out.settings.halt Waits refl n refl refl
kind-locks Mode.Locked hearing out n = before refl
kind-locks Mode.Saved hearing out n = absurd (n (neither out.i3 Waits Restores refl refl))

rank-8 : (k : Kind) → cause_number (cause_of k) ≡ 8 → rank k ≡ 0 → ⊥
rank-8 OpCode e z = omega (arith, e)
rank-8 HaltEnd e z = omega (arith, e)
rank-8 Boots e z = omega (arith, e)
rank-8 Saves e z = omega (arith, e)
rank-8 Kind.LocksUp e z = omega (arith, z)
rank-8 Restarts e z = omega (arith, e)
rank-8 Restores e z = omega (arith, e)
rank-8 NonVectored e z = omega (arith, e)
rank-8 Vectored e z = omega (arith, e)
rank-8 Waits e z = omega (arith, e)
rank-8 Stuck e z = omega (arith, z)

pub cause-8 : (out : Outside) (s : State) → cause_number (cause_of (kind_of s out)) ≡ 8 → LocksUp out s.mode
cause-8 out s e = kind-locks s.mode (hears s) out (rank-8 (kind_of s out) e)
