-- What becomes of a step, by its accesses: from the definitions to the pages.
use Prim.Native.Nat.{ℕ, zero, suc, ◌<◌}
use native.Mathlib.Omega.{arith}
use mathlib.Core.Bool.{true, false}
use mathlib.Core.List.{List, [], ◌∷◌}
use mathlib.Core.Path.{◌≡◌, refl, sym, ap, ◌∙◌, subst}
use lib.ListN.{length, get_or}
use Rattle.board.specs.Work.{value}
use Rattle.state.specs.declared.State.{State}
use Rattle.state.specs.declared.Settings.{Settings}
use Rattle.state.specs.declared.Outside.{Outside}
use Rattle.state.specs.declared.Mode.TheVariants.{Locked}
use Rattle.state.specs.State.{heard, with_mode}
use Rattle.step.specs.declared.Cause.{Cause}
use Rattle.step.specs.declared.Cause.TheVariants.{LockedAt}
use Rattle.step.specs.Step.{After, after, step_of, kind_of, cause_of, error_cause_of, cause_number, cause_address, is_blank}
use Rattle.step.specs.Told.{work_answered, is_blank_step}
use Rattle.step.proofs.Laws.Causes.{no-blank}
use Rattle.step.proofs.Laws.Told.{told-in-none, told-in-error, WorkDone, done, step-done, Dropped, trapped, locked, step-dropped, step-counted}
use Rattle.step.proofs.Laws.Locks.{cause-8}
use Rattle.refusal.specs.Page.{answered, left}
use Rattle.refusal.proofs.Laws.Page.{answered-one}
use Rattle.machine.specs.Numbers.{state_page, told_of, TurnPage, first_page}
use Rattle.machine.specs.Entry.{turned}
use Rattle.machine.specs.Trail.{trail_of, blanks_in, first_blank_in, cause_at}
use Rattle.machine.proofs.Laws.Counted.{first-least, trail-length, trail-at}
use Rattle.demands.specs.Terms.{blank_cause, bus_error, lock_up, Blanked, Fitted, before_at, Counted}

-- ---- what a page says of a step

module _ {p : TurnPage} {m' : List ℕ} (x : After) (e : left (answered p) m' ≡ turned x) where
  pub cause-is : p.cause ≡ cause_number x.cause
  cause-is = ap (λ z. z.cause) (answered-one (ap (λ z. z.page) e))

  pub told_is : p.told ≡ told_of (cause_address x.cause)
  told_is = ap (λ z. z.told) (answered-one (ap (λ z. z.page) e))

  pub state-is : p.state ≡ state_page x.state
  state-is = ap (λ z. z.state) (answered-one (ap (λ z. z.page) e))

  pub image-is : m' ≡ x.image
  image-is = ap (λ z. z.lent) e

-- a blank by its number
blank-number : (c : Cause) → blank_cause (cause_number c) ≡ is_blank c
blank-number Cause.OpCode = refl
blank-number Cause.Switch = refl
blank-number Cause.NonVectored = refl
blank-number Cause.Vectored = refl
blank-number Cause.Nothing = refl
blank-number (Cause.OpCodeBlank a) = refl
blank-number (Cause.InterruptBlank a) = refl
blank-number (Cause.SaveBlank a) = refl
blank-number (Cause.LockedAt a) = refl
blank-number Cause.Locked = refl

-- ---- a step

module _ (map : List ℕ) (out : Outside) (s : State) (m : List ℕ) {p : TurnPage} {m' : List ℕ} where
  dropped-page : {x : After} → Dropped map out s m x → left (answered p) m' ≡ turned x → Blanked map out s m p m'
  dropped-page (trapped a stops t n r b) e =
      let c = error_cause_of (kind_of s out) a in
      let x = after t n c in
      record {
        at = a;
        first_reached = stops;
        told = told_is x e ∙ ap told_of (told-in-error (kind_of s out) a);
        ends = bus_error t n r (state-is x e) (image-is x e) (cause-is x e) (ap blank_cause (cause-is x e) ∙ blank-number c ∙ b);
      }
  dropped-page (locked a stops h) e =
      let x = after (with_mode s Locked) m (LockedAt a) in
      record { at = a; first_reached = stops; told = told_is x e; ends = lock_up h (state-is x e) (image-is x e) (cause-is x e) }

  done-page : {x : After} → WorkDone map out s m x → left (answered p) m' ≡ turned x → Fitted map out s m p m'
  done-page (done t n r) e =
      let c = cause_of (kind_of s out) in
      let x = after t n c in
      record {
        next = t;
        came = r ∙ ap (λ z. value t z) (sym (image-is x e));
        state = state-is x e;
        told = told_is x e ∙ ap told_of (told-in-none (kind_of s out));
        no_blank = ap blank_cause (cause-is x e) ∙ blank-number c ∙ no-blank (kind_of s out);
        lock = λ h. cause-8 out s (sym (cause-is x e) ∙ h);
      }

  pub blanked : left (answered p) m' ≡ turned (step_of map out s m) → work_answered map out s m ≡ false → Blanked map out s m p m'
  blanked e h = dropped-page (step-dropped map out s m h) e

  pub fitted : left (answered p) m' ≡ turned (step_of map out s m) → work_answered map out s m ≡ true → Fitted map out s m p m'
  fitted e h = done-page (step-done map out s m h) e

-- ---- a run's count

cause-at : (rs : List After) (k : ℕ) (d : After) → k < length rs → cause_at rs k ≡ (get_or rs k d).cause
cause-at [] k d h = absurd (omega arith)
cause-at (a ∷ rs) zero d h = refl
cause-at (a ∷ rs) (suc k) d h = cause-at rs k d (omega arith)

pub counted : (settings : Settings) (map lines : List ℕ) (s : State) (m : List ℕ)
    → (let rs = trail_of settings map lines s m in
    Counted settings map lines s m (blanks_in rs) (first_page (first_blank_in rs)))
counted settings map lines s m = record { number = refl; least = first-least (trail_of settings map lines s m); each = at }
  where
    at : (k : ℕ) → k < length lines → (let b = before_at settings map lines s m k in
        is_blank (cause_at (trail_of settings map lines s m) k) ≡ is_blank_step map (heard settings (get_or lines k 0)) b.state b.image)
    at k h =
        let b = before_at settings map lines s m k in
        let d = step_of map (heard settings (get_or lines k 0)) b.state b.image in
        let i : k < length (trail_of settings map lines s m) = subst (λ (z : ℕ). k < z) (sym (trail-length settings map lines s m)) h in
        ap is_blank (cause-at (trail_of settings map lines s m) k d i ∙ ap (λ (z : After). z.cause) (trail-at settings map lines s m Cause.Nothing d k h))
        ∙ step-counted map (heard settings (get_or lines k 0)) b.state b.image
