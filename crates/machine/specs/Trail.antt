-- The trail of a run: what each of its steps leaves, in order; and the blanks that are read off it.
use Rattle.std.specs.Prelude.{ℕ, zero, suc, ◌+◌, ◌<◌, false, cond, List, [], ◌∷◌, ◌≡◌, length, Option, Some, None}
use Rattle.state.specs.declared.State.{State}
use Rattle.state.specs.declared.Settings.{Settings}
use Rattle.state.specs.State.{heard}
use Rattle.step.specs.declared.Cause.{Cause}
use Rattle.step.specs.Step.{After, after, step_of, blank_at, is_blank}
use Rattle.refusal.specs.Page.{answered, Left, left}
use Rattle.machine.specs.declared.FirstBlank.{FirstBlank}
use Rattle.machine.specs.declared.Tally.{Tally}
use Rattle.machine.specs.Numbers.{FirstPage, place, none, state_page, RanPage, first_at, first_page}

-- the state, the image and the cause after each step
unfoldable pub trail_of : Settings → List ℕ → List ℕ → State → List ℕ → List After
trail_of settings map [] s m = []
trail_of settings map (line ∷ lines) s m =
    let a = step_of map (heard settings line) s m in
    a ∷ trail_of settings map lines a.state a.image

-- where a trail ends: after its last step, or at b where it has none
abbrev pub last_after : After → List After → After
last_after b [] = b
last_after b (a ∷ rs) = last_after a rs

-- how many of its steps are blanks
unfoldable pub blanks_in : List After → ℕ
blanks_in [] = 0
blanks_in (a ∷ rs) = cond (is_blank a.cause) 1 0 + blanks_in rs

-- the first of them: a place moved on by n steps
abbrev pub place_moved : ℕ → Option FirstBlank → Option FirstBlank
place_moved n (Some b) = Some (first_at (n + b.place) b.address)
place_moved n None = None

-- this step, where it is a blank, or else a later one
abbrev pub here : Option ℕ → Option FirstBlank → Option FirstBlank
here (Some a) later = Some (first_at 0 a)
here None later = place_moved 1 later

unfoldable pub first_blank_in : List After → Option FirstBlank
first_blank_in [] = None
first_blank_in (a ∷ rs) = here (blank_at a.cause) (first_blank_in rs)

abbrev pub tally_in : List After → Tally
tally_in rs = record { blanks = blanks_in rs; first = first_blank_in rs }

-- the cause of the step at a place
abbrev pub cause_at : List After → ℕ → Cause
cause_at [] k = Cause.Nothing
cause_at (a ∷ rs) zero = a.cause
cause_at (a ∷ rs) (suc k) = cause_at rs k

-- the least place with a blank: one that tells this address stands there, and none before it; or there is none at all
pub data Least (rs : List After) : FirstPage → Type 0 where
  least : {p a : ℕ} → p < length rs → blank_at (cause_at rs p) ≡ Some a → ((k : ℕ) → k < p → is_blank (cause_at rs k) ≡ false) → Least rs (place p a)
  nowhere : ((k : ℕ) → k < length rs → is_blank (cause_at rs k) ≡ false) → Least rs none

-- what a run shows that went along a trail from b
abbrev pub run_shown : Settings → List ℕ → List ℕ → State → List ℕ → Left RanPage (List ℕ)
run_shown settings map lines s m =
    let rs = trail_of settings map lines s m in
    let b = last_after (after s m Cause.Nothing) rs in
    left (answered (record { state = state_page b.state; blanks = blanks_in rs; first = first_page (first_blank_in rs) })) b.image
