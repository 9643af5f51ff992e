-- The theorems that specs/MoreCalls.antt states.
use Prim.Native.Nat.{ℕ}
use mathlib.Core.Bool.{cond}
use mathlib.Core.List.{List}
use mathlib.Core.Path.{◌≡◌, refl, sym, ap, ◌∙◌, subst}
use lib.ListN.{take, replicate}
use Rattle.wordbytes.specs.Words.{word_at}
use Rattle.wordbytes.proofs.Laws.{word-again}
use Rattle.state.specs.declared.State.{State}
use Rattle.state.specs.declared.Settings.{Settings}
use Rattle.state.specs.State.{heard}
use Rattle.step.specs.declared.Cause.{Cause}
use Rattle.step.specs.Step.{after, step_of}
use Rattle.refusal.specs.Numbers.{no_state}
use Rattle.refusal.specs.Page.{answered, left, call, reading}
use Rattle.refusal.proofs.Laws.Page.{answered-one, call-right}
use Rattle.machine.specs.Numbers.{RanPage, ran_page, first_page}
use Rattle.machine.specs.Run.{End, end, run_of, last_cause}
use Rattle.machine.specs.Trail.{trail_of, last_after, blanks_in, first_blank_in, tally_in}
use Rattle.machine.specs.Entry.{step_why, run_why, run_end, turned}
use Rattle.machine.specs.Same.{same_of, run_same_page}
use Rattle.machine.specs.Until.{steps_to, StopPage, stop_page, stopped, until_of, run_until_page}
use Rattle.machine.proofs.Laws.Counted.{run-trail}
use Rattle.machine_c.specs.Layout.{tally_bytes, state_from, settings_from, refused_run}
use Rattle.machine_c.specs.Calls.{run_laid}
use Rattle.machine_c.specs.Runs.{until_from, stop_bytes, refused_until, stop_in, run_same_call, run_until_call}
use Rattle.job.specs.Job.{map_of, line_words, why_read}
use Rattle.endline.specs.Report.{bench_board}
use Rattle.runjob.specs.Bench.{up_of, run_in, ran_at, job_run}
use Rattle.stepline.specs.Shown.{ShownPage, shown_as, show_why, show_of, step_text}
use Rattle.demands.specs.Terms.{Counted}
use Rattle.demands.proofs.Laws.Took.{took}
use Rattle.demands.proofs.Laws.Blanks.{blanked, fitted, counted}
use Rattle.demands.specs.MoreCalls.{WriteStepBlanked, WriteStepFitted, RunSameCounted, RunUntilCounted, JobRunCounted, Wd16RunSameCounted, Wd16RunUntilCounted}

-- ---- a step with its line

module _ (settings : Settings) (m map : List ℕ) (line number : ℕ) (s : State) (text : List ℕ) (p : ShownPage) (m' text' : List ℕ) where
  step-shown : left (answered p) (m', text') ≡ show_of settings m map line number s text → left (answered p.turn) m' ≡ turned (step_of map (heard settings line) s m)
  unfolding show_of
  step-shown e =
      let a = step_of map (heard settings line) s m in
      let h = (call-right (show_why settings _ map line _) (shown_as a (step_text settings map line number s m) text) (m, text) e).1 in
      let turn = ap (λ (z : ShownPage). z.turn) (answered-one (ap (λ z. z.page) h)) in
      let image : m' ≡ a.image = ap (λ z. z.lent.0) h in
      rw (turn, image) refl

pub write-step-blanked : WriteStepBlanked
write-step-blanked settings m map line number s text r m' text' p e d h =
    blanked map (heard settings line) s m (step-shown settings m map line number s text p m' text' (ap (λ z. left z (m', text')) (sym d) ∙ e)) h

pub write-step-fitted : WriteStepFitted
write-step-fitted settings m map line number s text r m' text' p e d h =
    fitted map (heard settings line) s m (step-shown settings m map line number s text p m' text' (ap (λ z. left z (m', text')) (sym d) ∙ e)) h

-- ---- the runs

-- the page of a run's end
ran-counted : (settings : Settings) (map lines : List ℕ) (s : State) (m : List ℕ) (p : RanPage) (n : List ℕ)
    → left (answered p) n ≡ run_end (run_of settings map lines s m) → Counted settings map lines s m p.blanks p.first
ran-counted settings map lines s m p n e =
    let h = answered-one (ap (λ z. z.page) (e ∙ ap run_end (run-trail settings map lines s m Cause.Nothing))) in
    rw (ap (λ z. z.blanks) h, ap (λ z. z.first) h) (counted settings map lines s m)

pub run-same-counted : RunSameCounted
unfolding run_same_page
run-same-counted settings m map line n s r m' p e d =
    let h = (call-right (step_why settings m map line) (same_of settings map line n s m) m (ap (λ z. left z m') (sym d) ∙ e)).1 in
    ran-counted settings map (replicate n line) s m p m' h

-- the page of a run that may end early
stop-counted : (settings : Settings) (map lines : List ℕ) (s : State) (m : List ℕ) (c : Cause) (k : ℕ) (p : StopPage) (n : List ℕ)
    → left (answered p) n ≡ stopped (run_of settings map (take k lines) s m) c k → Counted settings map (take p.steps lines) s m p.blanks p.first
stop-counted settings map lines s m c k p n e =
    let h = answered-one (ap (λ z. z.page) (e ∙ ap (λ (x : End). stopped x c k) (run-trail settings map (take k lines) s m Cause.Nothing))) in
    rw (ap (λ z. z.steps) h, ap (λ z. z.blanks) h, ap (λ z. z.first) h) (counted settings map (take k lines) s m)

pub run-until-counted : RunUntilCounted
unfolding run_until_page
run-until-counted settings m map lines u s r m' p e d =
    let h = (call-right (run_why settings m map lines) (until_of settings map lines u s m) m (ap (λ z. left z m') (sym d) ∙ e)).1 in
    stop-counted settings map lines s m _ (steps_to settings map u lines s m) p m' h

pub job-run-counted : JobRunCounted
unfolding job_run run_in
job-run-counted input image map lines r image' map' lines' p e d =
    let up = up_of input in
    let x = run_of bench_board (map_of input) (line_words input) up.state up.image in
    let h = (call-right (why_read _ _ _ input) (ran_at input x) (image, map, lines) (ap (λ z. left z (image', map', lines')) (sym d) ∙ e)).1 in
    let page = ap (λ z. z.page) h in
    ran-counted bench_board (map_of input) (line_words input) up.state up.image p (run_end x).lent (at x page)
  where
    at : (x : End) → answered p ≡ (ran_at input x).page → left (answered p) (run_end x).lent ≡ run_end x
    at (end t n y) e = rw (answered-one e) refl

-- ---- for C

pub wd16-run-same-counted : Wd16RunSameCounted
unfolding run_same_call run_same_page
wd16-run-same-counted b t m map w line n b' t' m' e =
    let lines = replicate n line in
    let rs = trail_of (settings_from w) map lines (state_from b) m in
    let x = last_after (after (state_from b) m Cause.Nothing) rs in
    let bad = cond (refused_run b t w) no_state 0 in
    let why = step_why (settings_from w) m map line in
    let same = ap (λ (y : End). reading run_laid (λ k. (b, t, k)) (call bad (call why (run_end y) m) m)) (run-trail (settings_from w) map lines (state_from b) m Cause.Nothing) in
    let h = took run_laid (λ k. (b, t, k)) m bad why (ran_page (record { state = x.state; tally = tally_in rs })) x.image (e ∙ same) in
    record { blanks = _; place = _; bytes = ap (λ z. z.1) h; holds = counted (settings_from w) map lines (state_from b) m }

pub wd16-run-until-counted : Wd16RunUntilCounted
unfolding run_until_call run_until_page stop_bytes tally_bytes
wd16-run-until-counted b t m map w lines asked b' t' m' e =
    let s = state_from b in
    let n = steps_to (settings_from w) map (until_from asked) lines s m in
    let c = last_cause (settings_from w) map (take n lines) s m Cause.Nothing in
    let rs = trail_of (settings_from w) map (take n lines) s m in
    let x = last_after (after s m Cause.Nothing) rs in
    let bad = cond (refused_until b t w asked) no_state 0 in
    let why = run_why (settings_from w) m map lines in
    let same = ap (λ (y : End). reading stop_in (λ k. (b, t, k)) (call bad (call why (stopped y c n) m) m)) (run-trail (settings_from w) map (take n lines) s m Cause.Nothing) in
    let h = took stop_in (λ k. (b, t, k)) m bad why (stop_page (record { turn = record { state = x.state; cause = c }; tally = tally_in rs; steps = n })) x.image (e ∙ same) in
    let bytes : t' ≡ stop_bytes (blanks_in rs) (first_page (first_blank_in rs)) n = ap (λ z. z.1) h in
    let steps : word_at t' 6 ≡ n = ap (λ (z : List ℕ). word_at z 6) bytes ∙ word-again n in
    record {
      blanks = _;
      place = _;
      bytes = ap (λ (z : List ℕ). take 6 z) bytes;
      holds = subst (λ (k : ℕ). Counted (settings_from w) map (take k lines) s m (blanks_in rs) (first_page (first_blank_in rs))) (sym steps) (counted (settings_from w) map (take n lines) s m);
    }
