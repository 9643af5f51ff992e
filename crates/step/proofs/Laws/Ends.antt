-- A step's ends: from what the work came to on the board to the step's definition on the image alone.
use Prim.Native.Nat.{ℕ, zero, suc}
use mathlib.Core.Bool.{Bool, true, false, not, ◌||◌, cond, true≢false}
use mathlib.Core.List.{List, [], ◌∷◌}
use mathlib.Core.Path.{◌≡◌, refl, sym, ap, ◌∙◌}
use native.Mathlib.Omega.{arith}
use lib.ListN.{set, replicate, get_or}
use Rattle.board.specs.Work.{value, blank, run}
use Rattle.board.specs.Exec.{beside, Lent, Board, undone}
use Rattle.board.proofs.Laws.Ended.{Fresh}
use Rattle.board.proofs.Laws.Undo.{none_left, board-fresh, board-back}
use Rattle.state.specs.declared.State.{State}
use Rattle.state.specs.declared.Outside.{Outside}
use Rattle.state.specs.declared.Settings.{Settings}
use Rattle.state.specs.declared.Mode.{Mode}
use Rattle.state.specs.declared.Mode.TheVariants.{Running, Waiting, PowerHalt, SwitchHalt, Locked, Saved}
use Rattle.state.specs.State.{with_mode, cleared, heard}
use Rattle.step.specs.declared.Kind.{Kind}
use Rattle.step.specs.declared.Kind.TheVariants.{OpCode, HaltEnd, Boots, Saves, LocksUp, Restarts, Restores, NonVectored, Vectored, Waits, Stuck}
use Rattle.step.specs.declared.Cause.{Cause}
use Rattle.step.specs.declared.Cause.TheVariants.{LockedAt}
use Rattle.step.specs.Step.{After, after, kind_in, hears, kind_of, work_of, bus_error, cause_of, error_cause_of, error_of, step_of, is_code, halt_option, power_up_option, up, or_locked, power_up_of}
use Rattle.step.specs.Inner.{calm, running}

pub fresh-clear : {map m l l' : List ℕ} → Board map (beside m l) → l' ≡ set l 0 0 → Fresh map (beside m l')
fresh-clear {l = l} b e = rw e (record { board = board-fresh {l = l} b; empty = none_left l b.whole })

pub fresh-back : {map m l m' l' : List ℕ} → Board map (beside m l) → m' ≡ undone (beside m l) → l' ≡ set l 0 0 → Fresh map (beside m' l')
fresh-back {m = m} {l = l} b d e = rw (d, e) (record { board = board-back {m = m} {l = l} b; empty = none_left l b.whole })

pub step-well : (map : List ℕ) (out : Outside) (s : State) (m : List ℕ) {k : Kind} {t : State} {n : List ℕ} {c : Cause}
    → k ≡ kind_of s out → run map (work_of k out s) m ≡ value t n → c ≡ cause_of k → after t n c ≡ step_of map out s m
unfolding step_of
step-well map out s m e h d = rw (← e, h, d)

pub step-ill : (map : List ℕ) (out : Outside) (s : State) (m : List ℕ) {k : Kind} {a : ℕ} {r : After} {u : List ℕ}
    → k ≡ kind_of s out → run map (work_of k out s) m ≡ blank a → u ≡ m → r ≡ error_of map k out s u a → r ≡ step_of map out s m
unfolding step_of
step-ill map out s m e h f d = rw (← e, h, ← f) d

pub error-well : (map : List ℕ) (k : Kind) (out : Outside) (s : State) {m u : List ℕ} {t : State} {n : List ℕ} (a : ℕ) {c : Cause}
    → m ≡ u → run map (bus_error k out s) m ≡ value t n → c ≡ error_cause_of k a → after t n c ≡ error_of map k out s u a
unfolding error_of
error-well map k out s a e h d = rw (← e, h, d)

pub error-ill : (map : List ℕ) (k : Kind) (out : Outside) (s : State) {m u n : List ℕ} {a b : ℕ} {t : State}
    → m ≡ u → n ≡ m → run map (bus_error k out s) m ≡ blank b → t ≡ with_mode s Locked → after t n (LockedAt a) ≡ error_of map k out s u a
unfolding error_of
error-ill map k out s e f h d = rw (← e, h, d, f)

-- ---- power-up, from an empty log

pub fresh-none : {map m : List ℕ} → Lent map m → Fresh map (beside m (replicate 32 0))
fresh-none b = record { board = record { lent = b; whole = refl; few = omega arith }; empty = refl }

module _ (settings : Settings) (map m : List ℕ) {s t : State} {out : Outside} {k : Kind} {n : List ℕ} where
  pub powered : s ≡ cleared → out ≡ heard settings 0 → k ≡ power_up_option settings → run map (work_of k out s) m ≡ value t n → up t n ≡ power_up_of settings map m
  unfolding power_up_of
  powered e o h r = sym (ap (λ c. or_locked c m) (rw (e, o, h) at r))

  pub unpowered : {a : ℕ} → s ≡ cleared → out ≡ heard settings 0 → k ≡ power_up_option settings → run map (work_of k out s) m ≡ blank a → n ≡ m → t ≡ with_mode s Locked → up t n ≡ power_up_of settings map m
  unfolding power_up_of
  unpowered e o h r f d = rw (f, d, e) (sym (ap (λ c. or_locked c m) (rw (e, o, h) at r)))

-- ---- a step is an op code, or it is not

pub no_code : {k : Kind} → k ≡ OpCode → is_code k ≡ false → ⊥
no_code e h = true≢false (sym (ap is_code e) ∙ h)

pub code_is : (k : Kind) → is_code k ≡ true → k ≡ OpCode
code_is OpCode e = refl
code_is HaltEnd e = absurd (true≢false (sym e))
code_is Boots e = absurd (true≢false (sym e))
code_is Saves e = absurd (true≢false (sym e))
code_is LocksUp e = absurd (true≢false (sym e))
code_is Restarts e = absurd (true≢false (sym e))
code_is Restores e = absurd (true≢false (sym e))
code_is NonVectored e = absurd (true≢false (sym e))
code_is Vectored e = absurd (true≢false (sym e))
code_is Waits e = absurd (true≢false (sym e))
code_is Stuck e = absurd (true≢false (sym e))

-- no option is an op code
halt-no-code : (n : ℕ) → is_code (get_or (Boots ∷ Saves ∷ LocksUp ∷ Restarts ∷ []) n Restarts) ≡ false
halt-no-code zero = refl
halt-no-code (suc zero) = refl
halt-no-code (suc (suc zero)) = refl
halt-no-code (suc (suc (suc zero))) = refl
halt-no-code (suc (suc (suc (suc n)))) = refl

power-no-code : (n : ℕ) (k : Kind) → is_code k ≡ false → is_code (get_or (Boots ∷ Restores ∷ k ∷ Restarts ∷ []) n Restarts) ≡ false
power-no-code zero k h = refl
power-no-code (suc zero) k h = refl
power-no-code (suc (suc zero)) k h = h
power-no-code (suc (suc (suc zero))) k h = refl
power-no-code (suc (suc (suc (suc n)))) k h = refl

pub option-no-code : (settings : Settings) {k : Kind} → k ≡ power_up_option settings → is_code k ≡ false
unfolding power_up_option halt_option
option-no-code settings e = ap is_code e ∙ power-no-code settings.powerup _ (halt-no-code settings.halt)

-- where nothing is asked for, the mode alone tells whether a step is an op code
not-any : (a b c : Bool) → not (a || b || c) ≡ true → (a ≡ false) × (b ≡ false) × (c ≡ false)
not-any true b c e = absurd (true≢false (sym e))
not-any false true c e = absurd (true≢false (sym e))
not-any false false true e = absurd (true≢false (sym e))
not-any false false false e = (refl, refl, refl)

calm-in : (mode : Mode) (hearing : Bool) (out : Outside) → (out.i3 ≡ false) × (out.i1 ≡ false) × (out.i0 ≡ false) → is_code (kind_in mode hearing out) ≡ running mode
unfolding kind_in
calm-in Running true out e = rw (e.0, e.1, e.2)
calm-in Running false out e = rw e.0
calm-in Waiting true out e = rw (e.0, e.1, e.2)
calm-in Waiting false out e = rw e.0
calm-in PowerHalt hearing out e = halted out.fail
  where
    halted : (b : Bool) → is_code (cond b Waits HaltEnd) ≡ false
    halted true = refl
    halted false = refl
calm-in SwitchHalt hearing out e = rw e.0
calm-in Locked hearing out e = refl
calm-in Saved hearing out e = rw e.0

pub calm_code : (s : State) (out : Outside) → calm out ≡ true → is_code (kind_of s out) ≡ running s.mode
calm_code s out e = calm-in s.mode (hears s) out (not-any out.i3 out.i1 out.i0 e)
