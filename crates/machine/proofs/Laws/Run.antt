-- A run from any place on: one step more, or none left.
use Prim.Native.Nat.{ℕ, ◌+◌, ◌<◌}
use mathlib.Core.List.{List, [], ◌∷◌}
use mathlib.Core.Bool.{Bool}
use mathlib.Core.Path.{◌≡◌, refl, sym, ap, ◌∙◌}
use native.Mathlib.Numerals.{add-one}
use lib.ListN.{length, drop, get_or}
use lib.Seq.{drop-cons, drop-length}
use Rattle.state.specs.declared.State.{State}
use Rattle.state.specs.declared.Settings.{Settings}
use Rattle.state.specs.declared.Outside.{Outside}
use Rattle.state.specs.State.{heard}
use Rattle.machine.specs.declared.Tally.{Tally}
use Rattle.step.specs.declared.Cause.{Cause}
use Rattle.step.specs.Step.{step_of, After, after, blank_at}
use Rattle.step.specs.Inner.{calm}
use Rattle.machine.specs.Run.{blank_noted, End, end, rest_of_run, run_of, last_cause}

rest-cons : (settings : Settings) (map : List ℕ) (i x : ℕ) (xs : List ℕ) (s : State) (m : List ℕ) (t : Tally)
    → rest_of_run settings map (i + 1) xs (step_of map (heard settings x) s m).state (step_of map (heard settings x) s m).image (blank_noted t i (blank_at (step_of map (heard settings x) s m).cause)) ≡ rest_of_run settings map i (x ∷ xs) s m t
unfolding rest_of_run
rest-cons settings map i x xs s m t = refl

-- one step more
pub rest_more : (settings : Settings) (map lines : List ℕ) (i : ℕ) (s : State) (m : List ℕ) (t t' : Tally) (a : After)
    → i < length lines → a ≡ step_of map (heard settings (get_or lines i 0)) s m → t' ≡ blank_noted t i (blank_at a.cause)
    → rest_of_run settings map (i + 1) (drop (i + 1) lines) a.state a.image t' ≡ rest_of_run settings map i (drop i lines) s m t
rest_more settings map lines i s m t t' a l e d = rw (drop-cons lines i 0 l, ← add-one i, d, e) (rest-cons settings map i (get_or lines i 0) (drop (i + 1) lines) s m t)

-- no step left
pub rest-none : (settings : Settings) (map lines : List ℕ) (i : ℕ) (s : State) (m : List ℕ) (t : Tally) → i ≡ length lines → rest_of_run settings map i (drop i lines) s m t ≡ end s m t
unfolding rest_of_run
rest-none settings map lines i s m t e = rw (e, drop-length lines)

cause-cons : (settings : Settings) (map : List ℕ) (x : ℕ) (xs : List ℕ) (s : State) (m : List ℕ) (c : Cause)
    → last_cause settings map xs (step_of map (heard settings x) s m).state (step_of map (heard settings x) s m).image (step_of map (heard settings x) s m).cause ≡ last_cause settings map (x ∷ xs) s m c
unfolding last_cause
cause-cons settings map x xs s m c = refl

pub cause-more : (settings : Settings) (map lines : List ℕ) (i : ℕ) (s : State) (m : List ℕ) (c : Cause) (a : After)
    → i < length lines → a ≡ step_of map (heard settings (get_or lines i 0)) s m
    → last_cause settings map (drop (i + 1) lines) a.state a.image a.cause ≡ last_cause settings map (drop i lines) s m c
cause-more settings map lines i s m c a l e = rw (drop-cons lines i 0 l, ← add-one i, e) (cause-cons settings map (get_or lines i 0) (drop (i + 1) lines) s m c)

pub cause-none : (settings : Settings) (map lines : List ℕ) (i : ℕ) (s : State) (m : List ℕ) (c : Cause) → i ≡ length lines → last_cause settings map (drop i lines) s m c ≡ c
unfolding last_cause
cause-none settings map lines i s m c e = rw (e, drop-length lines)

-- a run over one line word is a step
pub run-of-one : (settings : Settings) (map : List ℕ) (line : ℕ) (s : State) (m : List ℕ) {t : State} {n : List ℕ} {y : Tally} {c : Cause}
    → end t n y ≡ run_of settings map (line ∷ []) s m → c ≡ last_cause settings map (line ∷ []) s m Cause.Nothing → after t n c ≡ step_of map (heard settings line) s m
unfolding rest_of_run last_cause
run-of-one settings map line s m {t = t} {n = n} e d =
    let state : t ≡ (step_of map (heard settings line) s m).state = ap state_in e in
    let image : n ≡ (step_of map (heard settings line) s m).image = ap image_in e in
    rw (state, image, d)
  where
    state_in : End → State
    state_in (end t n y) = t

    image_in : End → List ℕ
    image_in (end t n y) = n

-- ---- what is heard of the line word at a place: anew where it is another than the one before

pub record Hearing (settings : Settings) (x line : ℕ) (out : Outside) (quiet : Bool) : Type 0 where
  pub word : line ≡ x
  pub parted : out ≡ heard settings line
  pub told : quiet ≡ calm out

pub hearing-new : {settings : Settings} {x line : ℕ} {out o : Outside} {quiet q : Bool}
    → line ≡ x → out ≡ o → quiet ≡ q → o ≡ heard settings x → q ≡ calm o → Hearing settings x line out quiet
hearing-new {settings = settings} a b d e f = record { word = a; parted = b ∙ e ∙ ap (λ l. heard settings l) (sym a); told = d ∙ f ∙ ap (λ o. calm o) (sym b) }

pub hearing-old : {settings : Settings} {x l line : ℕ} {out o : Outside} {quiet q : Bool}
    → line ≡ l → out ≡ o → quiet ≡ q → x ≡ l → o ≡ heard settings l → q ≡ calm o → Hearing settings x line out quiet
hearing-old {settings = settings} a b d x e f = record { word = a ∙ sym x; parted = b ∙ e ∙ ap (λ l. heard settings l) (sym a); told = d ∙ f ∙ ap (λ o. calm o) (sym b) }
