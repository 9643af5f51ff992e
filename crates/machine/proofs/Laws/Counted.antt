-- A run's end is its trail's, its count of blanks the number of blanks on the trail, its first place the least of theirs, with the address told there.
use Rattle.std.specs.Prelude.{Option, Some, None}
use Prim.Native.Nat.{ℕ, zero, suc, ◌+◌, ◌<◌}
use native.Mathlib.Omega.{arith}
use mathlib.Core.Bool.{false, cond}
use mathlib.Core.List.{List, [], ◌∷◌}
use mathlib.Core.Path.{◌≡◌, refl, sym, ap, ◌∙◌}
use lib.ListN.{length, get_or, take}
use Rattle.state.specs.declared.State.{State}
use Rattle.state.specs.declared.Settings.{Settings}
use Rattle.state.specs.State.{heard}
use Rattle.step.specs.declared.Cause.{Cause}
use Rattle.step.specs.Step.{After, after, step_of, blank_at, is_told, is_blank}
use Rattle.machine.specs.declared.Tally.{Tally}
use Rattle.machine.specs.declared.FirstBlank.{FirstBlank}
use Rattle.machine.specs.Numbers.{first_page}
use Rattle.machine.specs.Numbers.{first_at}
use Rattle.machine.specs.Run.{end, rest_of_run, run_of, blank_noted, no_blanks, first_kept, End}
use Rattle.machine.specs.Trail.{trail_of, last_after, blanks_in, place_moved, here, first_blank_in, tally_in, cause_at, Least, least, nowhere}
use Rattle.machine.specs.Counted.{or_first, tally_joined}

-- ---- A RUN'S END AND TALLY ARE ITS TRAIL'S

-- where a trail from b ends, with the tally of n steps before it
abbrev pub end_of : After → ℕ → Tally → List After → End
end_of b n t rs = end (last_after b rs).state (last_after b rs).image (tally_joined n t (tally_in rs))

-- ---- tallies add up

tally-is : {a b : ℕ} {f g : Option FirstBlank} → a ≡ b → f ≡ g → ◌≡◌ {A = Tally} (record { blanks = a; first = f }) (record { blanks = b; first = g })
tally-is e h = cc

or-never : (f : Option FirstBlank) → or_first f None ≡ f
or-never (Some b) = refl
or-never None = refl

or-or : (f g h : Option FirstBlank) → or_first (or_first f g) h ≡ or_first f (or_first g h)
or-or (Some b) g h = refl
or-or None g h = refl

moved-or : (n : ℕ) (f g : Option FirstBlank) → place_moved n (or_first f g) ≡ or_first (place_moved n f) (place_moved n g)
moved-or n (Some b) g = refl
moved-or n None g = refl

moved-moved : (n k : ℕ) (f : Option FirstBlank) → place_moved n (place_moved k f) ≡ place_moved (n + k) f
moved-moved n k (Some b) = ap (λ z. Some (first_at z b.address)) (omega arith)
moved-moved n k None = refl

moved_none : (f : Option FirstBlank) → place_moved 0 f ≡ f
moved_none (Some b) = ap (λ z. Some (first_at z b.address)) (omega arith)
moved_none None = refl

pub joined-left : (t : Tally) → tally_joined 0 no_blanks t ≡ t
unfolding tally_joined
joined-left t = tally-is (omega arith) (moved_none t.first)

pub joined-right : (n : ℕ) (t : Tally) → tally_joined n t no_blanks ≡ t
unfolding tally_joined
joined-right n t = tally-is (omega arith) (or-never t.first)

pub joined-joined : (n k : ℕ) (t u v : Tally) → tally_joined (n + k) (tally_joined n t u) v ≡ tally_joined n t (tally_joined k u v)
unfolding tally_joined
joined-joined n k t u v =
    tally-is (omega arith)
    (or-or t.first (place_moved n u.first) (place_moved (n + k) v.first)
    ∙ ap (λ z. or_first t.first (or_first (place_moved n u.first) z)) (sym (moved-moved n k v.first))
    ∙ ap (λ z. or_first t.first z) (sym (moved-or n u.first (place_moved k v.first))))

-- one step, and the trail after it
tally-cons : (a : After) (rs : List After) → tally_in (a ∷ rs) ≡ tally_joined 1 (blank_noted no_blanks 0 (blank_at a.cause)) (tally_in rs)
unfolding blanks_in first_blank_in tally_joined blank_noted
tally-cons a rs = split (blank_at a.cause)
  where
    split : (b : Option ℕ) → ◌≡◌ {A = Tally} (record { blanks = cond (is_told b) 1 0 + blanks_in rs; first = here b (first_blank_in rs) })
        (record { blanks = (blank_noted no_blanks 0 b).blanks + blanks_in rs; first = or_first (blank_noted no_blanks 0 b).first (place_moved 1 (first_blank_in rs)) })
    split (Some x) = refl
    split None = refl

-- the loop's tally
noted-joined : (t : Tally) (n : ℕ) (b : Option ℕ) → blank_noted t n b ≡ tally_joined n t (blank_noted no_blanks 0 b)
unfolding tally_joined blank_noted
noted-joined t n (Some a) = tally-is refl (first t.first)
  where
    first : (f : Option FirstBlank) → first_kept f n a ≡ or_first f (Some (first_at (n + 0) a))
    first (Some b) = refl
    first None = ap (λ z. Some (first_at z a)) (omega arith)
noted-joined t n None = tally-is (omega arith) (sym (or-never t.first))

-- ---- A RUN'S END AND TALLY ARE ITS TRAIL'S

pub rest-trail : (settings : Settings) (map : List ℕ) (place : ℕ) (lines : List ℕ) (s : State) (m : List ℕ) (t : Tally) (c : Cause)
    → rest_of_run settings map place lines s m t ≡ end_of (after s m c) place t (trail_of settings map lines s m)
unfolding rest_of_run trail_of blanks_in first_blank_in
rest-trail settings map place [] s m t c = ap (end s m) (sym (joined-right place t))
rest-trail settings map place (x ∷ xs) s m t c =
    let a = step_of map (heard settings x) s m in
    let rs = trail_of settings map xs a.state a.image in
    rest-trail settings map (place + 1) xs a.state a.image (blank_noted t place (blank_at a.cause)) a.cause
    ∙ ap (λ z. end (last_after a rs).state (last_after a rs).image z)
    (ap (λ z. tally_joined (place + 1) z (tally_in rs)) (noted-joined t place (blank_at a.cause))
    ∙ joined-joined place 1 t (blank_noted no_blanks 0 (blank_at a.cause)) (tally_in rs)
    ∙ ap (tally_joined place t) (sym (tally-cons a rs)))

-- the whole run, from a state and an image; a cause before its first step is not asked for
pub run-trail : (settings : Settings) (map lines : List ℕ) (s : State) (m : List ℕ) (c : Cause)
    → run_of settings map lines s m ≡ end (last_after (after s m c) (trail_of settings map lines s m)).state (last_after (after s m c) (trail_of settings map lines s m)).image (tally_in (trail_of settings map lines s m))
run-trail settings map lines s m c = rest-trail settings map 0 lines s m no_blanks c ∙ ap (λ z. end (last_after (after s m c) (trail_of settings map lines s m)).state (last_after (after s m c) (trail_of settings map lines s m)).image z) (joined-left (tally_in (trail_of settings map lines s m)))

-- ---- THE FIRST PLACE IS THE LEAST

pub first-least : (rs : List After) → Least rs (first_page (first_blank_in rs))
unfolding first_blank_in
first-least [] = nowhere (λ k h. absurd (omega arith))
first-least (a ∷ rs) = split (blank_at a.cause) refl (first_blank_in rs) (first-least rs)
  where
    later : (f : Option FirstBlank) → is_blank a.cause ≡ false → Least rs (first_page f) → Least (a ∷ rs) (first_page (place_moved 1 f))
    later (Some f) e (least l h g) = rw (one_more f.place) (least {p = suc f.place} (omega arith) h before)
      where
        one_more : (p : ℕ) → 1 + p ≡ suc p
        one_more p = omega arith

        before : (k : ℕ) → k < suc f.place → is_blank (cause_at (a ∷ rs) k) ≡ false
        before zero i = e
        before (suc k) i = g k (omega arith)
    later None e (nowhere g) = nowhere every
      where
        every : (k : ℕ) → k < length (a ∷ rs) → is_blank (cause_at (a ∷ rs) k) ≡ false
        every zero i = e
        every (suc k) i = g k (omega arith)

    split : (b : Option ℕ) → blank_at a.cause ≡ b → (f : Option FirstBlank) → Least rs (first_page f) → Least (a ∷ rs) (first_page (here b f))
    split (Some x) e f h = least {p = 0} (omega arith) e (λ k i. absurd (omega arith))
    split None e f h = later f (ap is_told e) h

-- ---- the trail, place by place

pub trail-length : (settings : Settings) (map lines : List ℕ) (s : State) (m : List ℕ) → length (trail_of settings map lines s m) ≡ length lines
unfolding trail_of
trail-length settings map [] s m = refl
trail-length settings map (x ∷ xs) s m =
    let a = step_of map (heard settings x) s m in
    ap suc (trail-length settings map xs a.state a.image)

-- the step at a place is the step over its line word from where the places before it end
pub trail-at : (settings : Settings) (map lines : List ℕ) (s : State) (m : List ℕ) (c : Cause) (d : After) (k : ℕ) → k < length lines
    → (let b = last_after (after s m c) (take k (trail_of settings map lines s m)) in
    get_or (trail_of settings map lines s m) k d ≡ step_of map (heard settings (get_or lines k 0)) b.state b.image)
unfolding trail_of
trail-at settings map [] s m c d k h = absurd (omega arith)
trail-at settings map (x ∷ xs) s m c d zero h = refl
trail-at settings map (x ∷ xs) s m c d (suc k) h =
    let a = step_of map (heard settings x) s m in
    trail-at settings map xs a.state a.image a.cause d k (omega arith)
