-- Plugging in a card, over the definitions: what work comes to on a map, it comes to on every map that fits more; so do a step that was
-- sound, and a trail of such steps.
use Rattle.std.specs.Prelude.{Option, Some, None}
use Prim.Native.Nat.{ℕ, ◌+◌, ◌/◌}
use native.Mathlib.Omega.{arith}
use mathlib.Core.Bool.{Bool, true, false, cond}
use mathlib.Core.List.{List, [], ◌∷◌}
use mathlib.Core.Path.{◌≡◌, refl, sym, ap, ◌∙◌}
use lib.ListN.{get_or, set}
use lib.Seq.{get_or-set_other}
use Rattle.board.specs.Work.{Work, give, read_at, write_at, Came, value, blank, fitted, writable, get, put, run}
use Rattle.board.proofs.Laws.Alike.{found-value}
use Rattle.state.specs.declared.State.{State}
use Rattle.state.specs.declared.Outside.{Outside}
use Rattle.state.specs.declared.Settings.{Settings}
use Rattle.state.specs.declared.Mode.TheVariants.{Locked}
use Rattle.state.specs.State.{heard, with_mode}
use Rattle.step.specs.declared.Cause.{Cause}
use Rattle.step.specs.Step.{After, after, step_of, blank_at, is_told, is_blank, kind_of, work_of, bus_error}
use Rattle.step.proofs.Laws.Ends.{step-well}
use Rattle.step.proofs.Laws.Causes.{locked-still, blank-counted}
use Rattle.machine.specs.Run.{end, run_of}
use Rattle.machine.specs.Trail.{trail_of, last_after, blanks_in, first_blank_in, here, place_moved, tally_in}
use Rattle.machine.proofs.Laws.Counted.{run-trail}
use Rattle.laws.specs.Cards.{Plugged}

-- ---- a step

-- no blank, and not locked after it
pub record SoundStep (a : After) : Type 0 where
  pub no_blank : is_blank a.cause ≡ false
  pub unlocked : a.state.mode ≡ Locked → ⊥

-- ---- the map

-- What can be read on the one map can be on the other, and what can be written.
pub record More (map big : List ℕ) : Type 0 where
  pub reads : (a : ℕ) → fitted map a ≡ true → fitted big a ≡ true
  pub writes : (a : ℕ) → writable map a ≡ true → writable big a ≡ true

not-both : {b : Bool} → b ≡ true → b ≡ false → ⊥
not-both e f = let z : ◌≡◌ {A = ℕ} 0 1 = cc in omega arith

pub plugged-more : (map big : List ℕ) → Plugged map big → More map big
unfolding fitted writable
plugged-more map big g = record { reads = λ a e. rw (g (a / 256) (λ z. not-both e (rw z))) e; writes = λ a e. rw (g (a / 256) (λ z. not-both e (rw z))) e }

-- one card: page p, which was unfitted, gets the byte v
pub plugged-one : (map : List ℕ) (p v : ℕ) → get_or map p 0 ≡ 0 → Plugged map (set map p v)
plugged-one map p v e q n = get_or-set_other map p q v 0 (λ d. n (ap (λ z. get_or map z 0) d ∙ e))

-- and further cards
pub plugged-then : (map big full : List ℕ) → Plugged map big → Plugged big full → Plugged map full
plugged-then map big full g h p n = h p (λ z. n (sym (g p n) ∙ z)) ∙ g p n

-- ---- A VALUE ON A MAP IS THE SAME VALUE, WITH THE SAME IMAGE, ON ANY MAP THAT FITS MORE

value-more : {A : Type 0} (map big : List ℕ) → More map big → (w : Work A) (m : List ℕ) (x : A) (n : List ℕ) → run map w m ≡ value x n → run big w m ≡ value x n
unfolding run
value-more map big g (give y) m x n h = h
value-more map big g (read_at z a k) m x n h =
    let f = found-value (fitted map a) a (run map (k (get z m a)) m) x n h in
    rw (g.reads a f.0) (value-more map big g (k (get z m a)) m x n f.1)
value-more map big g (write_at z a v w) m x n h =
    let f = found-value (writable map a) a (run map w (put z m a v)) x n h in
    rw (g.writes a f.0) (value-more map big g w (put z m a v) x n f.1)

-- ---- a step

module _ (map : List ℕ) (out : Outside) (s : State) (m : List ℕ) where
  -- its work came to a value: work that meets a blank is a blank, or locks
  sound-value : SoundStep (step_of map out s m) → (t : State) × (n : List ℕ) × (run map (work_of (kind_of s out) out s) m ≡ value t n)
  unfolding with_mode
  sound-value h = work (run map (work_of (kind_of s out) out s) m) refl
    where
      trap : {a : ℕ} → run map (work_of (kind_of s out) out s) m ≡ blank a → (c : Came State) → run map (bus_error (kind_of s out) out s) m ≡ c → ⊥
      trap e (value t n) f = not-both ((blank-counted map out s m {b = 0} e).0 t n f) h.no_blank
      trap e (blank b) f = h.unlocked (ap (λ z. z.state.mode) ((blank-counted map out s m e).1 f))

      work : (c : Came State) → run map (work_of (kind_of s out) out s) m ≡ c → (t : State) × (n : List ℕ) × (run map (work_of (kind_of s out) out s) m ≡ value t n)
      work (value t n) e = (t, n, e)
      work (blank a) e = absurd (trap e (run map (bus_error (kind_of s out) out s) m) refl)

  -- A SOUND STEP IS THE SAME STEP: state, image and cause
  pub step-more : (big : List ℕ) → More map big → SoundStep (step_of map out s m) → step_of big out s m ≡ step_of map out s m
  step-more big g h =
      let v = sound-value h in
      sym (step-well big out s m refl (value-more map big g _ m v.0 v.1 v.2) refl) ∙ step-well map out s m refl v.2 refl

-- ---- a trail

-- locked once, locked to the end
trail-locked : (settings : Settings) (map lines : List ℕ) (s : State) (m : List ℕ) (c : Cause) → s.mode ≡ Locked → (last_after (after s m c) (trail_of settings map lines s m)).state.mode ≡ Locked
unfolding trail_of
trail-locked settings map [] s m c e = e
trail-locked settings map (x ∷ xs) s m c e =
    let a = step_of map (heard settings x) s m in
    trail-locked settings map xs a.state a.image a.cause (ap (λ z. z.state.mode) (locked-still map (heard settings x) s m e) ∙ e)

no-blank : (b : Bool) (n : ℕ) → cond b 1 0 + n ≡ 0 → (b ≡ false) × (n ≡ 0)
no-blank true n e = absurd (omega arith)
no-blank false n e = (refl, omega arith)

-- THE SAME STEPS: state, image and cause after each
pub trail_more : (settings : Settings) (map big : List ℕ) → More map big → (lines : List ℕ) (s : State) (m : List ℕ) (c : Cause)
    → blanks_in (trail_of settings map lines s m) ≡ 0 → ((last_after (after s m c) (trail_of settings map lines s m)).state.mode ≡ Locked → ⊥)
    → trail_of settings big lines s m ≡ trail_of settings map lines s m
unfolding trail_of blanks_in
trail_more settings map big g [] s m c e u = refl
trail_more settings map big g (x ∷ xs) s m c e u =
    let a = step_of map (heard settings x) s m in
    let n = no-blank (is_blank a.cause) (blanks_in (trail_of settings map xs a.state a.image)) e in
    let sound : SoundStep a = record { no_blank = n.0; unlocked = λ l. u (trail-locked settings map xs a.state a.image a.cause l) } in
    rw (step-more map (heard settings x) s m big g sound) (ap (λ z. a ∷ z) (trail_more settings map big g xs a.state a.image a.cause n.1 u))

-- and so the same end
pub run_more : (settings : Settings) (map big : List ℕ) → More map big → (lines : List ℕ) (s : State) (m : List ℕ) (c : Cause)
    → blanks_in (trail_of settings map lines s m) ≡ 0 → ((last_after (after s m c) (trail_of settings map lines s m)).state.mode ≡ Locked → ⊥)
    → run_of settings big lines s m ≡ run_of settings map lines s m
run_more settings map big g lines s m c e u =
    run-trail settings big lines s m c
    ∙ ap (λ z. end (last_after (after s m c) z).state (last_after (after s m c) z).image (tally_in z)) (trail_more settings map big g lines s m c e u)
    ∙ sym (run-trail settings map lines s m c)

-- where no step is a blank, there is no first one
pub none_first : (rs : List After) → blanks_in rs ≡ 0 → first_blank_in rs ≡ None
unfolding blanks_in first_blank_in
none_first [] e = refl
none_first (a ∷ rs) e = split (blank_at a.cause) (none_first rs) e
  where
    split : (b : Option ℕ) → (blanks_in rs ≡ 0 → first_blank_in rs ≡ None) → cond (is_told b) 1 0 + blanks_in rs ≡ 0 → here b (first_blank_in rs) ≡ None
    split (Some x) h e = absurd (omega arith)
    split None h e = ap (place_moved 1) (h (omega arith))
