-- Demand 3 for the runs that a board makes: over one line word, and until something happens.
use Rattle.std.specs.Prelude.{Option}
use Prim.Native.Nat.{ℕ, ◌+◌}
use mathlib.Core.Bool.{cond}
use mathlib.Core.List.{List, [], ◌∷◌}
use mathlib.Core.Path.{◌≡◌, refl, sym, ap, ◌∙◌}
use lib.ListN.{length, take, replicate}
use Rattle.board.specs.Work.{Agree, Untouched}
use Rattle.state.specs.declared.State.{State}
use Rattle.state.specs.declared.Settings.{Settings}
use Rattle.state.specs.State.{heard}
use Rattle.step.specs.declared.Cause.{Cause}
use Rattle.step.specs.Step.{step_of}
use Rattle.step.proofs.Laws.Alike.{step-alike}
use Rattle.refusal.proofs.Laws.Answer.{page-one}
use Rattle.machine.specs.declared.FirstBlank.{FirstBlank}
use Rattle.machine.specs.declared.Stop.{Stop}
use Rattle.machine.specs.Until.{Stopped, ends, steps_to, stop_page, stopped_page, stopped, run_for, until_of, run_until_page}
use Rattle.machine.specs.declared.Until.{Until}
use Rattle.machine.specs.Numbers.{first_page}
use Rattle.machine.specs.Run.{End, end, run_of, no_blanks, last_cause}
use Rattle.machine.specs.Entry.{step_why, run_why, run_end}
use Rattle.machine.specs.Same.{same_of, run_same_page}
use Rattle.machine.proofs.Laws.Alike as Alike
use Rattle.machine.proofs.Laws.Alike.{EndsAlike, run-alike, image_at_end, run-untouched}
use Rattle.machine.proofs.Laws.Back.{first_back, first-back, turn_one}
use Rattle.machine.proofs.Laws.Blind.{SameLeft, call_same, call-untouched, ended_same}

-- ---- over one line word

ended-kept : (map m : List ℕ) (x : End) → Untouched map m (image_at_end x) → Untouched map m (run_end x).lent
ended-kept map m (end t n y) h = h

module _ (settings : Settings) (map : List ℕ) (line k : ℕ) (s : State) where
  pub same-same : (m n : List ℕ) → length m ≡ length n → Agree map m n → SameLeft map (run_same_page settings m map line k s) (run_same_page settings n map line k s)
  unfolding run_same_page
  same-same m n l g = rw l (call_same m n (step_why settings n map line) g (ended_same (run-alike settings map 0 (replicate k line) s m n no_blanks l g)))

  pub same_kept : (m : List ℕ) → Untouched map m (run_same_page settings m map line k s).lent
  unfolding run_same_page
  same_kept m =
      call-untouched map m (step_why settings m map line) (same_of settings map line k s m)
      (ended-kept map m (run_of settings map (replicate k line) s m) (run-untouched settings map 0 (replicate k line) s m no_blanks))

-- ---- until something happens

stopped-same : {map : List ℕ} {x y : End} (c : Cause) (k : ℕ) → EndsAlike map x y → SameLeft map (stopped x c k) (stopped y c k)
stopped-same c k (Alike.ends g) = record { page = refl; agree = g }

stopped-kept : (map m : List ℕ) (x : End) (c : Cause) (k : ℕ) → Untouched map m (image_at_end x) → Untouched map m (stopped x c k).lent
stopped-kept map m (end t n y) c k h = h

-- as many steps, and the same last cause
steps_alike : (settings : Settings) (map : List ℕ) (u : Until) (lines : List ℕ) (s : State) (m n : List ℕ) → length m ≡ length n → Agree map m n
    → steps_to settings map u lines s m ≡ steps_to settings map u lines s n
unfolding steps_to
steps_alike settings map u [] s m n l g = refl
steps_alike settings map u (x ∷ xs) s m n l g =
    let a = step_of map (heard settings x) s m in
    let b = step_of map (heard settings x) s n in
    let h = step-alike map (heard settings x) s m n l g in
    rw (h.state, h.cause) (ap (λ (z : ℕ). cond (ends u b.cause b.state.mode) 1 (1 + z)) (steps_alike settings map u xs b.state a.image b.image h.size h.agree))

cause-alike : (settings : Settings) (map lines : List ℕ) (s : State) (m n : List ℕ) (c : Cause) → length m ≡ length n → Agree map m n → last_cause settings map lines s m c ≡ last_cause settings map lines s n c
unfolding last_cause
cause-alike settings map [] s m n c l g = refl
cause-alike settings map (x ∷ xs) s m n c l g =
    let a = step_of map (heard settings x) s m in
    let b = step_of map (heard settings x) s n in
    let h = step-alike map (heard settings x) s m n l g in
    rw (h.state, h.cause) (cause-alike settings map xs b.state a.image b.image b.cause h.size h.agree)

module _ (settings : Settings) (map lines : List ℕ) (u : Until) (s : State) where
  for-same : (k : ℕ) (m n : List ℕ) → length m ≡ length n → Agree map m n → SameLeft map (run_for settings map lines s m k) (run_for settings map lines s n k)
  for-same k m n l g =
      rw (cause-alike settings map (take k lines) s m n Cause.Nothing l g)
      (stopped-same (last_cause settings map (take k lines) s n Cause.Nothing) k (run-alike settings map 0 (take k lines) s m n no_blanks l g))

  pub until-same : (m n : List ℕ) → length m ≡ length n → Agree map m n → SameLeft map (run_until_page settings m map lines u s) (run_until_page settings n map lines u s)
  unfolding run_until_page
  until-same m n l g =
      rw l
      (call_same m n (run_why settings n map lines) g
      (rw (steps_alike settings map u lines s m n l g) (for-same (steps_to settings map u lines s n) m n l g)))

  pub until-kept : (m : List ℕ) → Untouched map m (run_until_page settings m map lines u s).lent
  unfolding run_until_page
  until-kept m =
      let k = steps_to settings map u lines s m in
      call-untouched map m (run_why settings m map lines) (until_of settings map lines u s m)
      (stopped-kept map m (run_of settings map (take k lines) s m) (last_cause settings map (take k lines) s m Cause.Nothing) k (run-untouched settings map 0 (take k lines) s m no_blanks))

-- ---- one answer

first_one : (f g : Option FirstBlank) → first_page f ≡ first_page g → f ≡ g
first_one f g e = sym (first-back f) ∙ ap first_back e ∙ first-back g

stop-one : (r q : Stop) → stop_page r ≡ stop_page q → r ≡ q
stop-one r q e =
    let turn = turn_one r.turn q.turn (ap (λ z. z.turn) e) in
    let first = first_one r.tally.first q.tally.first (ap (λ z. z.first) e) in
    let blanks : r.tally.blanks ≡ q.tally.blanks = ap (λ z. z.blanks) e in
    let steps : r.steps ≡ q.steps = ap (λ z. z.steps) e in
    rw (turn, first, blanks, steps)

pub stopped-one : (r q : Stopped) → stopped_page r ≡ stopped_page q → r ≡ q
stopped-one = page-one stop-one
