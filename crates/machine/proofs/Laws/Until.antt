-- Laws of specs/Until.antt.
use Prim.Native.Nat.{ℕ, suc, ◌+◌, ◌<◌}
use native.Mathlib.Omega.{arith}
use native.Mathlib.Numerals.{add-one}
use mathlib.Core.Bool.{true, false, cond}
use mathlib.Core.List.{List, ◌∷◌}
use mathlib.Core.Path.{◌≡◌, refl, ap, ◌∙◌}
use lib.ListN.{length, take, drop, get_or}
use lib.Seq.{drop-cons, drop-length}
use Rattle.board.specs.Exec.{Lent, Store}
use Rattle.state.specs.declared.State.{State}
use Rattle.state.specs.declared.Settings.{Settings}
use Rattle.state.specs.State.{heard}
use Rattle.step.specs.declared.Cause.{Cause}
use Rattle.step.specs.Step.{After, after, step_of, blank_at}
use Rattle.refusal.specs.Page.{refused, answered, left}
use Rattle.refusal.proofs.Laws.Page.{call-refused, call-answered}
use Rattle.machine.specs.declared.Stage.{Stage}
use Rattle.machine.specs.declared.Stop.{Stop}
use Rattle.machine.specs.declared.Tally.{Tally}
use Rattle.machine.specs.declared.Until.{Until}
use Rattle.machine.specs.Run.{end, rest_of_run, run_of, blank_noted, no_blanks, last_cause}
use Rattle.machine.specs.Entry.{run_why}
use Rattle.machine.specs.Until.{ends, steps_to, stop_page, run_for, until_of, run_until_page, Strode, stop_at, Ended}

-- ---- one step of a run over the first line words

module _ (settings : Settings) (map lines : List ℕ) (i : ℕ) (s : State) (m : List ℕ) (a : After) (l : i < length lines) (e : a ≡ step_of map (heard settings (get_or lines i 0)) s m) where
  rest-cons : (x k : ℕ) (xs : List ℕ) (t : Tally)
      → (let b = step_of map (heard settings x) s m in rest_of_run settings map (i + 1) (take k xs) b.state b.image (blank_noted t i (blank_at b.cause)) ≡ rest_of_run settings map i (take (suc k) (x ∷ xs)) s m t)
  unfolding rest_of_run
  rest-cons x k xs t = refl

  rest-took : (k : ℕ) (t t' : Tally) → t' ≡ blank_noted t i (blank_at a.cause)
      → rest_of_run settings map (i + 1) (take k (drop (i + 1) lines)) a.state a.image t' ≡ rest_of_run settings map i (take (suc k) (drop i lines)) s m t
  rest-took k t t' d = rw (drop-cons lines i 0 l, ← add-one i, d, e) (rest-cons (get_or lines i 0) k (drop (i + 1) lines) t)

  cause-cons : (x k : ℕ) (xs : List ℕ) (c : Cause)
      → (let b = step_of map (heard settings x) s m in last_cause settings map (take k xs) b.state b.image b.cause ≡ last_cause settings map (take (suc k) (x ∷ xs)) s m c)
  unfolding last_cause
  cause-cons x k xs c = refl

  cause-took : (k : ℕ) (c : Cause) → last_cause settings map (take k (drop (i + 1) lines)) a.state a.image a.cause ≡ last_cause settings map (take (suc k) (drop i lines)) s m c
  cause-took k c = rw (drop-cons lines i 0 l, ← add-one i, e) (cause-cons (get_or lines i 0) k (drop (i + 1) lines) c)

  steps-cons : (u : Until) (x : ℕ) (xs : List ℕ)
      → (let b = step_of map (heard settings x) s m in steps_to settings map u (x ∷ xs) s m ≡ cond (ends u b.cause b.state.mode) 1 (1 + steps_to settings map u xs b.state b.image))
  unfolding steps_to
  steps-cons u x xs = refl

  steps-took : (u : Until) → steps_to settings map u (drop i lines) s m ≡ cond (ends u a.cause a.state.mode) 1 (1 + steps_to settings map u (drop (i + 1) lines) a.state a.image)
  steps-took u = rw (drop-cons lines i 0 l, ← add-one i, e) (steps-cons u (get_or lines i 0) (drop (i + 1) lines))

-- ---- where a run stands

-- what is left from here, over the next k line words, comes to the run over the line words so far and those
pub record Onto (settings : Settings) (map lines : List ℕ) (s : State) (m : List ℕ) (b : Stage) (n : List ℕ) : Type 0 where
  pub runs : (k : ℕ) → rest_of_run settings map b.at (take k (drop b.at lines)) b.state n b.tally ≡ run_of settings map (take (b.at + k) lines) s m
  pub causes : (k : ℕ) → last_cause settings map (take k (drop b.at lines)) b.state n b.cause ≡ last_cause settings map (take (b.at + k) lines) s m Cause.Nothing

pub onto-none : (settings : Settings) (map lines : List ℕ) (s : State) (m : List ℕ) → Onto settings map lines s m (record { state = s; tally = no_blanks; cause = Cause.Nothing; at = 0 }) m
onto-none settings map lines s m = record {
  runs = λ k. ap (λ z. run_of settings map (take z lines) s m) (none k);
  causes = λ k. ap (λ z. last_cause settings map (take z lines) s m Cause.Nothing) (none k);
}
  where
    none : (k : ℕ) → k ≡ 0 + k
    none k = omega arith

-- one step on
pub onto-more : (settings : Settings) (map lines : List ℕ) (s : State) (m : List ℕ) (b r : Stage) (n : List ℕ) (st : Store) → Onto settings map lines s m b n → b.at < length lines
    → Strode settings map lines b n r st → Onto settings map lines s m r st.image
onto-more settings map lines s m b r n st h l g =
    let a = after r.state st.image r.cause in
    let on : (k : ℕ) → b.at + suc k ≡ b.at + 1 + k = λ k. omega arith in
    rw g.next (record {
      runs = λ k. rest-took settings map lines b.at b.state n a l g.step k b.tally r.tally g.tally ∙ h.runs (suc k) ∙ ap (λ z. run_of settings map (take z lines) s m) (on k);
      causes = λ k. cause-took settings map lines b.at b.state n a l g.step k b.cause ∙ h.causes (suc k) ∙ ap (λ z. last_cause settings map (take z lines) s m Cause.Nothing) (on k);
    })

-- ---- how many steps it makes

module _ (settings : Settings) (map lines : List ℕ) (u : Until) (all : ℕ) (b r : Stage) (n : List ℕ) (st : Store) (l : b.at < length lines) (g : Strode settings map lines b n r st)
    (h : b.at + steps_to settings map u (drop b.at lines) b.state n ≡ all) where
  here : steps_to settings map u (drop b.at lines) b.state n ≡ cond (ends u r.cause r.state.mode) 1 (1 + steps_to settings map u (drop (b.at + 1) lines) r.state st.image)
  here = steps-took settings map lines b.at b.state n (after r.state st.image r.cause) l g.step u

  -- this step doesn't end it
  pub steps-more : ends u r.cause r.state.mode ≡ false → r.at + steps_to settings map u (drop r.at lines) r.state st.image ≡ all
  steps-more e =
      let more : steps_to settings map u (drop b.at lines) b.state n ≡ 1 + steps_to settings map u (drop (b.at + 1) lines) r.state st.image = here ∙ rw e in
      rw g.next (omega (arith, more, h))

  -- or it does
  pub steps-end : ends u r.cause r.state.mode ≡ true → r.at ≡ all
  steps-end e =
      let last : steps_to settings map u (drop b.at lines) b.state n ≡ 1 = here ∙ rw e in
      omega (arith, last, h, g.next)

-- or no line word is left
pub steps-over : (settings : Settings) (map lines : List ℕ) (u : Until) (all : ℕ) (b : Stage) (n : List ℕ) → b.at ≡ length lines
    → b.at + steps_to settings map u (drop b.at lines) b.state n ≡ all → b.at ≡ all
unfolding steps_to
steps-over settings map lines u all b n e h =
    let none : steps_to settings map u (drop b.at lines) b.state n ≡ 0 = rw (e, drop-length lines) in
    omega (arith, none, h)

-- ---- where it ends

at_place : (settings : Settings) (map lines : List ℕ) (s : State) (m : List ℕ) (r : Stage) (n : List ℕ) → end r.state n r.tally ≡ run_of settings map (take r.at lines) s m
    → r.cause ≡ last_cause settings map (take r.at lines) s m Cause.Nothing → left (answered (stop_page (stop_at r))) n ≡ run_for settings map lines s m r.at
at_place settings map lines s m r n e d = rw (← e, ← d)

pub ended : (settings : Settings) (map lines : List ℕ) (u : Until) (s : State) (m : List ℕ) (r : Stage) (x : Stop) (n : List ℕ) → Onto settings map lines s m r n
    → r.at ≡ steps_to settings map u lines s m → x ≡ stop_at r → Lent map n → Ended settings map lines u s m x n
unfolding rest_of_run last_cause
ended settings map lines u s m r x n h e d l = rw d (record {
  same =
      at_place settings map lines s m r n (h.runs 0 ∙ ap (λ z. run_of settings map (take z lines) s m) (here r.at)) (h.causes 0 ∙ ap (λ z. last_cause settings map (take z lines) s m Cause.Nothing) (here r.at))
      ∙ ap (run_for settings map lines s m) e;
  lent = l;
})
  where
    here : (k : ℕ) → k + 0 ≡ k
    here k = omega arith

module _ (settings : Settings) (image map lines : List ℕ) (u : Until) (s : State) where
  pub until-refused : (why : ℕ) → why ≡ run_why settings image map lines → (why ≡ 0 → ⊥) → left (refused why) image ≡ run_until_page settings image map lines u s
  unfolding run_until_page
  until-refused why e n = call-refused (run_why settings image map lines) (until_of settings map lines u s image) image why e n

  pub until-answered : (r : Stop) (m : List ℕ) → run_why settings image map lines ≡ 0 → left (answered (stop_page r)) m ≡ until_of settings map lines u s image → left (answered (stop_page r)) m ≡ run_until_page settings image map lines u s
  unfolding run_until_page
  until-answered r m e h = call-answered (run_why settings image map lines) (until_of settings map lines u s image) image (left (answered (stop_page r)) m) e h
