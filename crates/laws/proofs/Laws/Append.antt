-- A run over two line lists joined, over the definitions: the steps of the first, then those of the second from where it ended.
use Prim.Native.Nat.{ℕ, ◌+◌}
use native.Mathlib.Omega.{arith}
use mathlib.Core.List.{List, [], ◌∷◌, ◌++◌}
use mathlib.Core.Path.{◌≡◌, refl, sym, ap, ◌∙◌}
use lib.ListN.{length}
use Rattle.state.specs.declared.State.{State}
use Rattle.state.specs.declared.Settings.{Settings}
use Rattle.state.specs.State.{heard}
use Rattle.step.specs.declared.Cause.{Cause}
use Rattle.step.specs.declared.Cause.TheVariants as Cause
use Rattle.step.specs.Step.{after, step_of, blank_at}
use Rattle.machine.specs.declared.Ran.{Ran}
use Rattle.machine.specs.declared.Tally.{Tally}
use Rattle.machine.specs.Run.{End, end, rest_of_run, run_of, ran_of, blank_noted, no_blanks}
use Rattle.machine.specs.Trail.{trail_of, last_after}
use Rattle.machine.specs.Counted.{tally_joined}
use Rattle.machine.proofs.Laws.Counted.{rest-trail, run-trail}
use Rattle.laws.proofs.Laws.Taken.{ran-is}
use Rattle.machine.proofs.Laws.Same.{behind_steps, rest_on}

-- ---- a run that goes on

-- after n steps that ended so, the run over the lines that follow
abbrev pub go_on : Settings → List ℕ → ℕ → List ℕ → End → End
go_on settings map n lines (end s m t) = behind_steps n t (run_of settings map lines s m)

-- ---- over two lists

-- the trail over both is the trail over the first, then the trail over the second
pub trail-append : (settings : Settings) (map xs ys : List ℕ) (s : State) (m : List ℕ) (c : Cause)
    → (let b = last_after (after s m c) (trail_of settings map xs s m) in
    trail_of settings map (xs ++ ys) s m ≡ trail_of settings map xs s m ++ trail_of settings map ys b.state b.image)
unfolding trail_of
trail-append settings map [] ys s m c = refl
trail-append settings map (x ∷ xs) ys s m c =
    let a = step_of map (heard settings x) s m in
    ap (λ z. a ∷ z) (trail-append settings map xs ys a.state a.image a.cause)

rest-behind : (settings : Settings) (map : List ℕ) (n : ℕ) (lines : List ℕ) (s : State) (m : List ℕ) (t : Tally) → rest_of_run settings map n lines s m t ≡ behind_steps n t (run_of settings map lines s m)
rest-behind settings map n lines s m t = rest-trail settings map n lines s m t Cause.Nothing ∙ ap (behind_steps n t) (sym (run-trail settings map lines s m Cause.Nothing))

rest-append : (settings : Settings) (map : List ℕ) (place : ℕ) (xs ys : List ℕ) (s : State) (m : List ℕ) (t : Tally)
    → rest_of_run settings map place (xs ++ ys) s m t ≡ rest_on settings map (place + length xs) ys (rest_of_run settings map place xs s m t)
unfolding rest_of_run
rest-append settings map place [] ys s m t = ap (λ z. rest_of_run settings map z ys s m t) (omega arith)
rest-append settings map place (x ∷ xs) ys s m t =
    let a = step_of map (heard settings x) s m in
    rest-append settings map (place + 1) xs ys a.state a.image (blank_noted t place (blank_at a.cause))
    ∙ ap (λ z. rest_on settings map z ys (rest_of_run settings map (place + 1) xs a.state a.image (blank_noted t place (blank_at a.cause)))) (omega arith)

pub run-append : (settings : Settings) (map xs ys : List ℕ) (s : State) (m : List ℕ) → run_of settings map (xs ++ ys) s m ≡ go_on settings map (length xs) ys (run_of settings map xs s m)
run-append settings map xs ys s m =
    rest-append settings map 0 xs ys s m no_blanks
    ∙ ap (λ z. rest_on settings map z ys (run_of settings map xs s m)) (omega arith)
    ∙ on (run_of settings map xs s m)
  where
    on : (e : End) → rest_on settings map (length xs) ys e ≡ go_on settings map (length xs) ys e
    on (end t n y) = rest-behind settings map (length xs) ys t n y

-- what two runs, the first of n steps, come to together
abbrev pub followed : ℕ → Ran → Ran → Ran
followed n a b = record { state = b.state; tally = tally_joined n a.tally b.tally }

pub joined-ends : (settings : Settings) (map xs ys : List ℕ) (s : State) (m m₁ m₂ m₃ : List ℕ) (a b c : Ran)
    → ran_of a m₁ ≡ run_of settings map xs s m → ran_of b m₂ ≡ run_of settings map ys a.state m₁ → ran_of c m₃ ≡ run_of settings map (xs ++ ys) s m
    → (c ≡ followed (length xs) a b) × (m₃ ≡ m₂)
joined-ends settings map xs ys s m m₁ m₂ m₃ a b c e f g =
    ran-is (g ∙ run-append settings map xs ys s m ∙ ap (go_on settings map (length xs) ys) (sym e) ∙ ap (behind_steps (length xs) a.tally) (sym f))
