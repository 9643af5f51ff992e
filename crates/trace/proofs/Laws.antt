-- From the callees' promises to the verdict, and to the trace that is made.
pub mod Bytes
pub mod First
pub mod Longest
pub mod Right
use Prim.Native.Nat.{ℕ, zero, suc, ◌+◌, ◌*◌, ◌-◌, ◌<◌, ◌≤◌}
use mathlib.Core.List.{List, [], ◌∷◌, ◌++◌}
use mathlib.Core.Path.{◌≡◌, refl, sym, ap, ◌∙◌}
use native.Mathlib.Nat.{sub-zero}
use native.Mathlib.Numerals.{add-one}
use native.Mathlib.Omega.{arith}
use lib.ListN.{length, get_or, drop, set}
use lib.Seq.{drop-cons, drop-length, sets}
use borrow.Author.Tests.{eq-eqb, ne_eqb, le-leb, lt-leb}
use Rattle.wordbytes.specs.Words.{word_at, bytes_in}
use Rattle.state.specs.declared.State.{State}
use Rattle.step.specs.declared.Cause.{Cause}
use Rattle.step.specs.declared.Cause.TheVariants as Cause
use Rattle.step.specs.Step.{After, after, up}
use Rattle.refusal.specs.Numbers.{trace_cut}
use Rattle.machine.specs.Trail.{trail_of, last_after}
use Rattle.trace.specs.declared.Verdict.{Verdict}
use Rattle.trace.specs.declared.Verdict.TheVariants.{Accepted, Wrong, Missing, Extra}
use Rattle.trace.specs.Trace.{entry_of, entries_of, joined, fields_from, entries_from, told_in, why_trace, or_else, first_wrong, compared}
use Rattle.trace.proofs.Laws.Bytes.{bytes-append, right-ten}
use Rattle.trace.specs.Walk.{told_from, step_verdict, stepped, trail, image_on, up_after}
use Rattle.wordbytes.proofs.Laws.{bytes-length}

-- ---- a trace that is cut, and one that is whole

module _ (t : List ℕ) where
  pub cut-count : length t < 2 → trace_cut ≡ why_trace t
  unfolding why_trace
  cut-count h = rw (lt-leb 2 (length t) h)

  pub cut_inside : (n : ℕ) → n ≡ word_at t 0 → 2 ≤ length t → (length t ≡ 2 + n * 20 → ⊥) → trace_cut ≡ why_trace t
  unfolding why_trace
  cut_inside n e h d = rw (le-leb 2 (length t) h, ne_eqb (length t) (2 + word_at t 0 * 20) (λ l. d (rw e l)))

  pub whole : (n : ℕ) → n ≡ word_at t 0 → 2 ≤ length t → length t ≡ 2 + n * 20 → 0 ≡ why_trace t
  unfolding why_trace
  whole n e h d = rw (le-leb 2 (length t) h, eq-eqb (length t) (2 + word_at t 0 * 20) (rw e at d))

-- ---- the words of an entry that is told

pub words-at : (t : List ℕ) (at n k : ℕ) → k < n → get_or (fields_from t at n) k 0 ≡ word_at t (at + k * 2)
unfolding fields_from
words-at t at zero k h = absurd (omega arith)
words-at t at (suc n) zero h = let e : at + 0 * 2 ≡ at = omega arith in rw e
words-at t at (suc n) (suc k) h = let e : at + 2 + k * 2 ≡ at + suc k * 2 = omega arith in words-at t (at + 2) n k (omega arith) ∙ rw e

-- ---- field by field

module _ (step k : ℕ) (xs ys : List ℕ) where
  pub differ-more : k < length xs → k < length ys → get_or xs k 0 ≡ get_or ys k 0 → first_wrong step (k + 1) (drop (k + 1) xs) (drop (k + 1) ys) ≡ first_wrong step k (drop k xs) (drop k ys)
  unfolding first_wrong
  differ-more h l e = rw (add-one k, drop-cons xs k 0 h, drop-cons ys k 0 l, eq-eqb (get_or xs k 0) (get_or ys k 0) e, add-one k)

  pub differ-here : k < length xs → k < length ys → (get_or xs k 0 ≡ get_or ys k 0 → ⊥) → Wrong step k (get_or xs k 0) ≡ first_wrong step k (drop k xs) (drop k ys)
  unfolding first_wrong
  differ-here h l n = rw (drop-cons xs k 0 h, drop-cons ys k 0 l, ne_eqb (get_or xs k 0) (get_or ys k 0) n)

  pub differ-end : k ≡ length xs → Accepted ≡ first_wrong step k (drop k xs) (drop k ys)
  unfolding first_wrong
  differ-end e = rw (e, drop-length xs)

-- ---- step by step

or-or : (u v w : Verdict) → or_else (or_else u v) w ≡ or_else u (or_else v w)
or-or Accepted v w = refl
or-or (Wrong step k x) v w = refl
or-or (Missing step) v w = refl
or-or (Extra step) v w = refl

compared-step : (step : ℕ) (r : List ℕ) (right told : List (List ℕ)) → or_else (step_verdict step r told) (compared (step + 1) right (drop 1 told)) ≡ compared step (r ∷ right) told
unfolding compared
compared-step step r right [] = refl
compared-step step r right (e ∷ told) = refl

told-next : (t : List ℕ) (step : ℕ) → drop 1 (told_from t step) ≡ told_from t (step + 1)
unfolding told_from entries_from
told-next t step = split (word_at t 0 - step) refl
  where
    split : (n : ℕ) → word_at t 0 - step ≡ n → drop 1 (entries_from t (2 + step * 20) n) ≡ entries_from t (2 + (step + 1) * 20) (word_at t 0 - (step + 1))
    split zero e = let z : word_at t 0 - (step + 1) ≡ 0 = omega arith in rw z
    split (suc n) e =
        let z : word_at t 0 - (step + 1) ≡ n = omega arith in
        let p : 2 + (step + 1) * 20 ≡ 2 + step * 20 + 20 = omega arith in
        rw (z, p)

pub told-first : (t : List ℕ) → told_from t 0 ≡ told_in t
unfolding told_from told_in
told-first t = rw (sub-zero (word_at t 0))

-- a step that is told, or missing
pub told-missing : (t right : List ℕ) (step : ℕ) → word_at t 0 ≤ step → Missing step ≡ step_verdict step right (told_from t step)
unfolding told_from entries_from
told-missing t right step h = let z : word_at t 0 - step ≡ 0 = omega arith in rw z

pub told-there : (t right : List ℕ) (step at : ℕ) → step < word_at t 0 → at ≡ 2 + step * 20 → first_wrong step 0 right (fields_from t at 10) ≡ step_verdict step right (told_from t step)
unfolding told_from entries_from
told-there t right step at h e = split (word_at t 0 - step) (omega arith)
  where
    split : (n : ℕ) → 0 < n → first_wrong step 0 right (fields_from t at 10) ≡ step_verdict step right (entries_from t (2 + step * 20) n)
    split zero h = absurd (omega arith)
    split (suc n) h = rw e

pub told-extra : (t : List ℕ) (step : ℕ) → step < word_at t 0 → Extra step ≡ compared step [] (told_from t step)
unfolding told_from entries_from compared
told-extra t step h = split (word_at t 0 - step) (omega arith)
  where
    split : (n : ℕ) → 0 < n → Extra step ≡ compared step [] (entries_from t (2 + step * 20) n)
    split zero h = absurd (omega arith)
    split (suc n) h = refl

pub told_none : (t : List ℕ) (step : ℕ) → word_at t 0 ≤ step → Accepted ≡ compared step [] (told_from t step)
unfolding told_from entries_from compared
told_none t step h = let z : word_at t 0 - step ≡ 0 = omega arith in rw z

-- ---- the steps that are left

module _ (map lines : List ℕ) (i : ℕ) (s : State) (m : List ℕ) where
  trail_more : i < length lines → trail map (drop i lines) s m ≡ stepped map (get_or lines i 0) s m ∷ trail map (drop (i + 1) lines) (stepped map (get_or lines i 0) s m).state (stepped map (get_or lines i 0) s m).image
  unfolding trail_of
  trail_more h = rw (add-one i, drop-cons lines i 0 h)

  trail-none : i ≡ length lines → trail map (drop i lines) s m ≡ []
  unfolding trail_of
  trail-none e = rw (e, drop-length lines)

  -- the image where they end
  pub image-more : (s' : State) (m' : List ℕ) → i < length lines → up s' m' ≡ up_after (stepped map (get_or lines i 0) s m) → image_on map (drop (i + 1) lines) s' m' ≡ image_on map (drop i lines) s m
  image-more s' m' h e =
      let a = stepped map (get_or lines i 0) s m in
      ap (λ u. image_on map (drop (i + 1) lines) u.state u.image) e
      ∙ any-cause (trail map (drop (i + 1) lines) a.state a.image) a.state a.image Cause.Nothing a.cause
      ∙ sym (ap (λ z. (last_after (after s m Cause.Nothing) z).image) (trail_more h))
    where
      any-cause : (rs : List After) (s : State) (m : List ℕ) (c d : Cause) → (last_after (after s m c) rs).image ≡ (last_after (after s m d) rs).image
      any-cause [] s m c d = refl
      any-cause (a ∷ rs) s m c d = refl

  pub image-none : i ≡ length lines → image_on map (drop i lines) s m ≡ m
  image-none e = ap (λ z. (last_after (after s m Cause.Nothing) z).image) (trail-none e)

  -- and what a trace is found to be from there on
  pub judge-more : (t : List ℕ) (s' : State) (m' : List ℕ) (found found' v : Verdict) → i < length lines → up s' m' ≡ up_after (stepped map (get_or lines i 0) s m)
      → v ≡ step_verdict i (entry_of s') (told_from t i) → found' ≡ or_else found v
      → or_else found' (compared (i + 1) (entries_of (trail map (drop (i + 1) lines) s' m')) (told_from t (i + 1))) ≡ or_else found (compared i (entries_of (trail map (drop i lines) s m)) (told_from t i))
  unfolding entries_of
  judge-more t s' m' found found' v h e d f =
      let a = stepped map (get_or lines i 0) s m in
      let state : s' ≡ a.state = ap (λ z. z.state) e in
      let image : m' ≡ a.image = ap (λ z. z.image) e in
      let right = entries_of (trail map (drop (i + 1) lines) a.state a.image) in
      rw (f, d, state, image, trail_more h, ← told-next t i)
      (or-or found (step_verdict i (entry_of a.state) (told_from t i)) (compared (i + 1) right (drop 1 (told_from t i)))
      ∙ ap (or_else found) (compared-step i (entry_of a.state) right (told_from t i)))

  pub judge-none : (t : List ℕ) (found r v : Verdict) → i ≡ length lines → v ≡ compared i [] (told_from t i) → r ≡ or_else found v → r ≡ or_else found (compared i (entries_of (trail map (drop i lines) s m)) (told_from t i))
  unfolding entries_of
  judge-none t found r v e d f = f ∙ rw (d, trail-none e)

-- ---- the trace made

-- one after the other
sets-sets : (xs ys b : List ℕ) (at : ℕ) → sets (sets b at xs) (at + length xs) ys ≡ sets b at (xs ++ ys)
sets-sets [] ys b at = let e : at + 0 ≡ at = omega arith in rw e
sets-sets (x ∷ xs) ys b at = let e : at + suc (length xs) ≡ suc at + length xs = omega arith in rw e (sets-sets xs ys (set b at x) (suc at))

-- a word of an entry, and those after it
pub put-more : (b b' xs : List ℕ) (at k : ℕ) → k < length xs → b' ≡ sets b (at + k * 2) (bytes_in (get_or xs k 0 ∷ []))
    → sets b' (at + (k + 1) * 2) (bytes_in (drop (k + 1) xs)) ≡ sets b (at + k * 2) (bytes_in (drop k xs))
put-more b b' xs at k h e =
    let next : at + (k + 1) * 2 ≡ suc (suc (at + k * 2)) = omega arith in
    rw (e, next, drop-cons xs k 0 h, add-one k)

pub put-none : (b xs : List ℕ) (at k : ℕ) → k ≡ length xs → b ≡ sets b (at + k * 2) (bytes_in (drop k xs))
put-none b xs at k e = rw (e, drop-length xs)

-- ---- the steps that are left, as bytes

module _ (map lines : List ℕ) (i : ℕ) (s : State) (m : List ℕ) where
  pub put_step : (s' : State) (m' b b' e : List ℕ) → i < length lines → up s' m' ≡ up_after (stepped map (get_or lines i 0) s m) → e ≡ entry_of s' → b' ≡ sets b (2 + i * 20) (bytes_in e)
      → sets b' (2 + (i + 1) * 20) (bytes_in (joined (entries_of (trail map (drop (i + 1) lines) s' m')))) ≡ sets b (2 + i * 20) (bytes_in (joined (entries_of (trail map (drop i lines) s m))))
  unfolding entries_of joined
  put_step s' m' b b' e h d f g =
      let a = stepped map (get_or lines i 0) s m in
      let state : s' ≡ a.state = ap (λ z. z.state) d in
      let image : m' ≡ a.image = ap (λ z. z.image) d in
      let x = entry_of a.state in
      let later = joined (entries_of (trail map (drop (i + 1) lines) a.state a.image)) in
      let size : 2 + i * 20 + length (bytes_in x) ≡ 2 + (i + 1) * 20 = omega (arith, bytes-length x, right-ten a.state) in
      let next = rw size at (sets-sets (bytes_in x) (bytes_in later) b (2 + i * 20)) in
      rw (g, f, state, image, trail_more map lines i s m h, bytes-append x later) next

  pub put_last : (b : List ℕ) → i ≡ length lines → b ≡ sets b (2 + i * 20) (bytes_in (joined (entries_of (trail map (drop i lines) s m))))
  unfolding entries_of joined
  put_last b e = rw (trail-none map lines i s m e)
