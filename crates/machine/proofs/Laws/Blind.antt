-- Demand 3 from the definitions to the pages: what a call answers and leaves does not depend on unfitted bytes.
use Prim.Native.Nat.{ℕ, zero, suc}
use mathlib.Core.List.{List}
use mathlib.Core.Path.{◌≡◌, refl, sym, ap, ◌∙◌}
use lib.ListN.{length, get_or}
use Rattle.board.specs.Work.{Agree, Untouched, Blind}
use Rattle.state.specs.declared.State.{State}
use Rattle.state.specs.declared.Settings.{Settings}
use Rattle.state.specs.State.{heard}
use Rattle.step.specs.Step.{After, step_of, Up, power_up_of}
use Rattle.step.proofs.Laws.Alike.{SameUp, power-alike, Same, step-alike, power-untouched, step-untouched}
use Rattle.refusal.specs.Page.{Page, Left, left, call}
use Rattle.machine.specs.Run.{End, end, run_of, no_blanks}
use Rattle.machine.proofs.Laws.Alike.{EndsAlike, ends, run-alike, image_at_end, run-untouched}
use Rattle.machine.specs.Entry.{power_why, step_why, run_why, powered, power_up_page, run_end, turned, step_page, run_page}

-- ---- two pages

-- the same answer, and images that agree on fitted bytes
pub record SameLeft {A : Type 0} (map : List ℕ) (x y : Left A (List ℕ)) : Type 0 where
  pub page : x.page ≡ y.page
  pub agree : Agree map x.lent y.lent

pub ended_same : {map : List ℕ} {x y : End} → EndsAlike map x y → SameLeft map (run_end x) (run_end y)
ended_same (ends g) = record { page = refl; agree = g }

turned_same : {map : List ℕ} {x y : After} → Same map x y → SameLeft map (turned x) (turned y)
turned_same h = record { page = rw (h.state, h.cause); agree = h.agree }

powered-same : {map : List ℕ} {x y : Up} → SameUp map x y → SameLeft map (powered x) (powered y)
powered-same h = record { page = rw h.state; agree = h.agree }

-- refused or not
pub call_same : {A : Type 0} {map : List ℕ} (m n : List ℕ) (why : ℕ) {x y : Left A (List ℕ)} → Agree map m n → SameLeft map x y → SameLeft map (call why x m) (call why y n)
call_same m n zero g h = h
call_same m n (suc k) g h = record { page = refl; agree = g }

pub call-untouched : {A : Type 0} (map m : List ℕ) (why : ℕ) (x : Left A (List ℕ)) → Untouched map m x.lent → Untouched map m (call why x m).lent
call-untouched map m zero x h = h
call-untouched map m (suc k) x h = λ a e. refl

module _ (settings : Settings) (map lines : List ℕ) (s : State) where
  pub run-same : (m n : List ℕ) → length m ≡ length n → Agree map m n → SameLeft map (run_page settings m map lines s) (run_page settings n map lines s)
  unfolding run_page
  run-same m n l g = rw l (call_same m n (run_why settings n map lines) g (ended_same (run-alike settings map 0 lines s m n no_blanks l g)))

  pub run-kept : (m : List ℕ) → Untouched map m (run_page settings m map lines s).lent
  unfolding run_page
  run-kept m = call-untouched map m (run_why settings m map lines) (run_end (run_of settings map lines s m)) (end_kept (run_of settings map lines s m) (run-untouched settings map 0 lines s m no_blanks))
    where
      end_kept : (x : End) → Untouched map m (image_at_end x) → Untouched map m (run_end x).lent
      end_kept (end t n y) h = h

module _ (settings : Settings) (map : List ℕ) (line : ℕ) (s : State) where
  pub step_same : (m n : List ℕ) → length m ≡ length n → Agree map m n → SameLeft map (step_page settings m map line s) (step_page settings n map line s)
  unfolding step_page
  step_same m n l g = rw l (call_same m n (step_why settings n map line) g (turned_same (step-alike map (heard settings line) s m n l g)))

  pub step_kept : (m : List ℕ) → Untouched map m (step_page settings m map line s).lent
  unfolding step_page
  step_kept m = call-untouched map m (step_why settings m map line) (turned (step_of map (heard settings line) s m)) (step-untouched map (heard settings line) s m)

module _ (settings : Settings) (map : List ℕ) where
  pub power-same : (m n : List ℕ) → length m ≡ length n → Agree map m n → SameLeft map (power_up_page settings m map) (power_up_page settings n map)
  unfolding power_up_page
  power-same m n l g = rw l (call_same m n (power_why settings n map) g (powered-same (power-alike settings map m n l g)))

  pub power-kept : (m : List ℕ) → Untouched map m (power_up_page settings m map).lent
  unfolding power_up_page
  power-kept m = call-untouched map m (power_why settings m map) (powered (power_up_of settings map m)) (power-untouched settings map m)

-- ---- two calls

-- two calls that answer and leave what their pages say are blind if their pages are
pub blind : {A B : Type 0} (f : A → Page B) {map m n m' n' : List ℕ} (r q : A) {x y : Left B (List ℕ)} → (f r ≡ f q → r ≡ q)
    → left (f r) m' ≡ x → left (f q) n' ≡ y → SameLeft map x y → Untouched map m x.lent → Untouched map n y.lent
    → Blind map m n r q m' n'
blind f r q once e d same h k =
    record {
      answer = once (ap (λ z. z.page) e ∙ same.page ∙ sym (ap (λ z. z.page) d));
      fitted_agree = λ a w. ap (λ z. get_or z.lent a 0) e ∙ same.agree a w ∙ sym (ap (λ z. get_or z.lent a 0) d);
      unfitted_stay = λ a w. ap (λ z. get_or z.lent a 0) e ∙ h a w;
      unfitted_stay_too = λ a w. ap (λ z. get_or z.lent a 0) d ∙ k a w;
    }
