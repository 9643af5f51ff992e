-- An answer that meets its contract and is no refusal is the definition's, in 01's numbers.
use Rattle.std.proofs.Common.{Ok}
use Prim.Native.Nat.{ℕ}
use mathlib.Core.List.{List}
use mathlib.Core.Path.{◌≡◌, ap, ◌∙◌}
use Rattle.state.specs.declared.State.{State}
use Rattle.state.specs.declared.Settings.{Settings}
use Rattle.state.specs.State.{heard}
use Rattle.step.specs.declared.Cause.TheVariants as Cause
use Rattle.step.specs.Step.{step_of, power_up_of}
use Rattle.refusal.specs.Page.{answered, left}
use Rattle.refusal.proofs.Laws.Page.{answered-one, call-right}
use Rattle.machine.specs.declared.Ran.{Ran}
use Rattle.machine.specs.Numbers.{StatePage, TurnPage, RanPage, ran_page}
use Rattle.machine.specs.Run.{End, end, run_of, ran_of}
use Rattle.machine.proofs.Laws.Counted.{run-trail}
use Rattle.machine.proofs.Laws.Back.{ran-one}
use Rattle.machine.specs.Entry.{power_why, step_why, run_why, powered, power_up_page, turned, step_page, finished_page, run_end, run_page}
use Rattle.machine.specs.Trail.{run_shown}

pub power-answer : (settings : Settings) (m map : List ℕ) {p : StatePage} {m' : List ℕ} → left (answered p) m' ≡ power_up_page settings m map
    → (power_why settings m map ≡ 0) × (left (answered p) m' ≡ powered (power_up_of settings map m))
unfolding power_up_page
power-answer settings m map e = call-right (power_why settings m map) (powered (power_up_of settings map m)) m e

module _ (settings : Settings) (m map : List ℕ) (line : ℕ) (s : State) {p : TurnPage} {m' : List ℕ} where
  pub step-answer : left (answered p) m' ≡ step_page settings m map line s → (step_why settings m map line ≡ 0) × (left (answered p) m' ≡ turned (step_of map (heard settings line) s m))
  unfolding step_page
  step-answer e = call-right (step_why settings m map line) (turned (step_of map (heard settings line) s m)) m e

module _ (settings : Settings) (m map lines : List ℕ) (s : State) {p : RanPage} {m' : List ℕ} where
  pub run-answer : left (answered p) m' ≡ run_page settings m map lines s → (run_why settings m map lines ≡ 0) × (left (answered p) m' ≡ run_shown settings map lines s m)
  unfolding run_page
  run-answer e =
      let h = call-right (run_why settings m map lines) (run_end (run_of settings map lines s m)) m e in
      (h.0, h.1 ∙ ap run_end (run-trail settings map lines s m Cause.Nothing))

-- the same in the program's own terms
pub run-done : (settings : Settings) (m map lines : List ℕ) (s : State) (a : Ran) (m' : List ℕ) → left (finished_page (Ok a)) m' ≡ run_page settings m map lines s
    → (run_why settings m map lines ≡ 0) × (ran_of a m' ≡ run_of settings map lines s m)
unfolding run_page
run-done settings m map lines s a m' e =
    let h = call-right (run_why settings m map lines) (run_end (run_of settings map lines s m)) m e in
    (h.0, at (run_of settings map lines s m) h.1)
  where
    at : (x : End) → left (answered (ran_page a)) m' ≡ run_end x → ran_of a m' ≡ x
    at (end t k y) e =
        let same : a ≡ record { state = t; tally = y } = ran-one a (record { state = t; tally = y }) (answered-one (ap (λ z. z.page) e)) in
        let image : m' ≡ k = ap (λ z. z.lent) e in
        rw (same, image)
