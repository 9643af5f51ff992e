-- What the definitions of a step rule out.
use Prim.Native.Nat.{ℕ, ◌≤◌}
use native.Mathlib.Omega.{arith}
use mathlib.Core.Bool.{true, false}
use mathlib.Core.List.{List}
use mathlib.Core.Path.{◌≡◌, refl, sym, ap, ◌∙◌}
use Rattle.board.specs.Work.{value, blank, run, fitted, writable, with_word, ◌>>=◌}
use Rattle.board.proofs.Laws.Alike.{found-value}
use Rattle.state.specs.declared.State.{State}
use Rattle.state.specs.declared.Outside.{Outside}
use Rattle.state.specs.declared.Mode.TheVariants.{Locked}
use Rattle.state.specs.State.{with_reg, with_mode, with_i2, ps_of}
use Rattle.state.specs.Registers.{set_reg}
use Rattle.wordmath.specs.Address.{minus}
use Rattle.state.specs.Stack.{push, push_both, from_loc, trap}
use Rattle.step.specs.declared.Kind.{Kind}
use Rattle.step.specs.declared.Kind.TheVariants.{OpCode, HaltEnd, Boots, Saves, LocksUp, Restarts, Restores, NonVectored, Vectored, Waits, Stuck}
use Rattle.step.specs.declared.Cause.{Cause}
use Rattle.step.specs.declared.Cause.TheVariants.{OpCodeBlank, InterruptBlank, SaveBlank, LockedAt}
use Rattle.step.specs.Step.{after, cause_number, is_blank, hears, kind_in, kind_of, work_of, bus_error, cause_of, error_cause_of, error_of, step_of, or_at, past}
use Rattle.step.proofs.Laws.Ends.{step-well, step-ill}
use Rattle.step.proofs.Laws.Restart.{restart-low, restore-low, never-trapped}

-- A step from locked changes nothing.
pub locked-still : (map : List ℕ) (out : Outside) (s : State) (m : List ℕ) → s.mode ≡ Locked → step_of map out s m ≡ after s m Cause.Locked
unfolding kind_in work_of run
locked-still map out s m e = sym (step-well map out s m {k = Stuck} (sym (ap (λ z. kind_in z (hears s) out) e)) refl refl)

-- a cause is 0 to 9
pub cause-le : (c : Cause) → cause_number c ≤ 9
cause-le Cause.OpCode = omega arith
cause-le Cause.Switch = omega arith
cause-le Cause.NonVectored = omega arith
cause-le Cause.Vectored = omega arith
cause-le Cause.Nothing = omega arith
cause-le (OpCodeBlank a) = omega arith
cause-le (InterruptBlank a) = omega arith
cause-le (SaveBlank a) = omega arith
cause-le (LockedAt a) = omega arith
cause-le Cause.Locked = omega arith

-- and none is 7
pub cause-not-7 : (c : Cause) → cause_number c ≡ 7 → ⊥
cause-not-7 Cause.OpCode e = omega arith
cause-not-7 Cause.Switch e = omega arith
cause-not-7 Cause.NonVectored e = omega arith
cause-not-7 Cause.Vectored e = omega arith
cause-not-7 Cause.Nothing e = omega arith
cause-not-7 (OpCodeBlank a) e = omega arith
cause-not-7 (InterruptBlank a) e = omega arith
cause-not-7 (SaveBlank a) e = omega arith
cause-not-7 (LockedAt a) e = omega arith
cause-not-7 Cause.Locked e = omega arith

-- ---- the count of blanks is the count that the manual's steps give

pub no-blank : (k : Kind) → is_blank (cause_of k) ≡ false
no-blank OpCode = refl
no-blank HaltEnd = refl
no-blank Boots = refl
no-blank Saves = refl
no-blank LocksUp = refl
no-blank Restarts = refl
no-blank Restores = refl
no-blank NonVectored = refl
no-blank Vectored = refl
no-blank Waits = refl
no-blank Stuck = refl

module _ (map : List ℕ) (out : Outside) (s : State) (m : List ℕ) where
  -- A step whose work reaches fitted addresses alone is no blank.
  pub value-no-blank : {t : State} {n : List ℕ} → run map (work_of (kind_of s out) out s) m ≡ value t n → is_blank (step_of map out s m).cause ≡ false
  value-no-blank h = ap (λ a. is_blank a.cause) (sym (step-well map out s m refl h refl)) ∙ no-blank (kind_of s out)

  -- A step whose work is not answered is the bus error's: its trap, or locked.
  pub blank-error : {a : ℕ} → run map (work_of (kind_of s out) out s) m ≡ blank a → step_of map out s m ≡ error_of map (kind_of s out) out s m a
  blank-error h = sym (step-ill map out s m refl h refl refl)

-- where the trap succeeds it is counted; after reads of page 0 alone that failed it never succeeds
counted : (k : Kind) (out : Outside) (s : State) (map m : List ℕ) {a : ℕ} {t : State} {n : List ℕ}
    → run map (work_of k out s) m ≡ blank a → run map (bus_error k out s) m ≡ value t n → is_blank (error_cause_of k a) ≡ true
unfolding work_of run
counted OpCode out s map m h g = refl
counted HaltEnd out s map m h g = sym (never-trapped map HaltEnd out s m (restart-low s) h g)
counted Boots out s map m h g = let z : ◌≡◌ {A = ℕ} 0 1 = cc in cc
counted Saves out s map m h g = refl
counted LocksUp out s map m h g = let z : ◌≡◌ {A = ℕ} 0 1 = cc in cc
counted Restarts out s map m h g = sym (never-trapped map Restarts out s m (restart-low s) h g)
counted Restores out s map m h g = sym (never-trapped map Restores out s m (restore-low s) h g)
counted NonVectored out s map m h g = refl
counted Vectored out s map m h g = refl
counted Waits out s map m h g = let z : ◌≡◌ {A = ℕ} 0 1 = cc in cc
counted Stuck out s map m h g = let z : ◌≡◌ {A = ℕ} 0 1 = cc in cc

-- and where it does not, the state is locked, the image as lent, and the cause a lock-up, which is no blank
pub blank-counted : (map : List ℕ) (out : Outside) (s : State) (m : List ℕ) {a b : ℕ}
    → run map (work_of (kind_of s out) out s) m ≡ blank a
    → ((t : State) (n : List ℕ) → run map (bus_error (kind_of s out) out s) m ≡ value t n → is_blank (step_of map out s m).cause ≡ true)
    × (run map (bus_error (kind_of s out) out s) m ≡ blank b → step_of map out s m ≡ after (with_mode s Locked) m (LockedAt a))
unfolding error_of
blank-counted map out s m {a} h =
    let k = kind_of s out in
    let e : step_of map out s m ≡ error_of map k out s m a = blank-error map out s m h in (
      (λ t n g. ap (λ r. is_blank r.cause) (e ∙ ap (λ c. or_at c (error_cause_of k a) (λ _. after (with_mode s Locked) m (LockedAt a))) g) ∙ counted k out s map m h g),
      (λ g. e ∙ ap (λ c. or_at c (error_cause_of k a) (λ _. after (with_mode s Locked) m (LockedAt a))) g),
    )

-- ---- the image after a trap differs from the one before only where it pushed: at SP - 2 and SP - 4

trap-image : (map : List ℕ) (s : State) (ps at : ℕ) (m : List ℕ) (t : State) (n : List ℕ)
    → run map (trap s ps at) m ≡ value t n → n ≡ with_word (with_word m (minus s.regs.sp 2) ps) (minus (minus s.regs.sp 2) 2) s.regs.pc
unfolding run trap push_both push from_loc ◌>>=◌ with_reg set_reg with_i2 with_mode
trap-image map s ps at m t n h =
    let one = found-value (writable map (minus s.regs.sp 2)) (minus s.regs.sp 2) _ t n h in
    let two = found-value (writable map (minus (minus s.regs.sp 2) 2)) (minus (minus s.regs.sp 2) 2) _ t n one.1 in
    let three = found-value (fitted map at) at _ t n two.1 in
    cc

-- and so does the image after a blank step: its work is dropped, and what the bus error pushed is all that is new
pub blank-image : (map : List ℕ) (out : Outside) (s : State) (m : List ℕ) {a : ℕ} (t : State) (n : List ℕ)
    → run map (work_of (kind_of s out) out s) m ≡ blank a
    → run map (bus_error (kind_of s out) out s) m ≡ value t n
    → (let u = past (kind_of s out) s in
    (step_of map out s m).image ≡ with_word (with_word m (minus u.regs.sp 2) (ps_of out true u)) (minus (minus u.regs.sp 2) 2) u.regs.pc)
unfolding error_of bus_error
blank-image map out s m {a} t n h g =
    let k = kind_of s out in
    let e : step_of map out s m ≡ error_of map k out s m a = blank-error map out s m h in
    ap (λ r. r.image) (e ∙ ap (λ c. or_at c (error_cause_of k a) (λ _. after (with_mode s Locked) m (LockedAt a))) g)
    ∙ trap-image map (past k s) (ps_of out true (past k s)) 0x12 m t n g
