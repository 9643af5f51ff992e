-- The theorems that specs/Demand3.antt states.
use Prim.Native.Nat.{ℕ, zero, suc}
use native.Mathlib.Omega.{arith}
use mathlib.Core.Bool.{cond}
use mathlib.Core.List.{List}
use mathlib.Core.Path.{◌≡◌, refl, sym, ap, ◌∙◌}
use lib.ListN.{length}
use Rattle.board.specs.Work.{Agree}
use Rattle.state.specs.declared.Settings.{Settings}
use Rattle.state.specs.State.{heard}
use Rattle.step.specs.Step.{After, step_of}
use Rattle.refusal.specs.Numbers.{no_state}
use Rattle.wordbytes.specs.Words.{word_at}
use Rattle.refusal.specs.Page.{answered, Left, left, call, Told, reading}
use Rattle.answer.specs.Answer.{answer_why, answering}
use Rattle.refusal.proofs.Laws.Page.{answered-one}
use Rattle.machine.specs.Numbers.{TurnPage, turn_page}
use Rattle.machine.specs.Entry.{powered_page, power_up_page, stepped_page, step_page, finished_page, run_page}
use Rattle.machine.specs.Same.{run_same_page}
use Rattle.machine.specs.Until.{stopped_page, run_until_page}
use Rattle.machine.proofs.Laws.Back.{powered-one, stepped-one, finished-one}
use Rattle.machine.proofs.Laws.Blind.{blind, power-same, power-kept, step_same, step_kept, run-same, run-kept}
use Rattle.machine_c.specs.Layout.{state_from, settings_from, refused_up, refused_step, refused_run}
use Rattle.machine_c.specs.Calls.{up_in, step_in, run_laid, power_up_call, step_call, run_call}
use Rattle.machine_c.specs.Runs.{until_from, refused_until, stop_in, run_same_call, run_until_call}
use Rattle.job.specs.Job.{lines_at, buffers_of, why_read, job_of}
use Rattle.job.proofs.Laws.{one_answer}
use Rattle.job_c.specs.Calls.{JobBuffers, job_laid, read_call}
use Rattle.benchline.proofs.Laws.Printed.{one-printed}
use Rattle.runjob.specs.Bench.{ran_at, job_run, end_line, bench_why, bench_of}
use Rattle.runjob.specs.Bench as Bench
use Rattle.listjob.specs.Stretch.{list_why, listed_in, list_of}
use Rattle.listing_c.specs.Calls.{next_words_of, list_call}
use Rattle.listing.proofs.Laws.Calls.{one-listed}
use Rattle.listing.proofs.Laws.Alike.{call-alike}
use Rattle.trace.specs.Trace.{verdict_of, verdict_page, why_check, buffers_after, check_of, why_make, made_of, make_of}
use Rattle.trace.proofs.Laws.Right.{checked-one, made_one}
use Rattle.demands.proofs.Laws.Pages.{same-call}
use Rattle.demands.proofs.Laws.Calls.{call-blind}
use Rattle.demands.proofs.Laws.Runs.{same-same, same_kept, until-same, until-kept, stopped-one}
use Rattle.demands.proofs.Laws.StepLines.{show-alike, line-blind}
use Rattle.demands.proofs.Laws.Blanks.{blanked, fitted, counted}
use Rattle.demands.proofs.Laws.Demand2.{step_is, run_is, wd16-step-is, wd16-run-is}
use Rattle.demands.specs.Demand3.{PowerUpBlind, StepBlind, RunBlind, RunSameBlind, RunUntilBlind, WriteStepBlind, Wd16PowerUpBlind, Wd16StepBlind, Wd16RunBlind, Wd16RunSameBlind, Wd16RunUntilBlind, ListLineBlind, Wd16ListLineBlind, JobBlind, Wd16ReadJobBlind, JobRunBlind, BenchBlind, ListBlind, CheckBlind, MakeBlind, StepBlanked, StepFitted, Wd16StepBlanked, Wd16StepFitted, RunCounted, Wd16RunCounted}

-- ---- TWO CALLS OVER IMAGES THAT AGREE ON FITTED BYTES: the same answer, fitted bytes that agree again, and every byte that
-- can't be written, of an unfitted or a read-only page, as lent

module _ (settings : Settings) (map m n : List ℕ) (l : length m ≡ length n) (g : Agree map m n) where
  pub power-up-blind : PowerUpBlind settings map m n l g
  power-up-blind r q m' n' e d = blind powered_page r q (powered-one r q) e d (power-same settings map m n l g) (power-kept settings map m) (power-kept settings map n)

  pub step-blind : StepBlind settings map m n l g
  step-blind line s r q m' n' e d = blind stepped_page r q (stepped-one r q) e d (step_same settings map line s m n l g) (step_kept settings map line s m) (step_kept settings map line s n)

  pub run-blind : RunBlind settings map m n l g
  run-blind lines s r q m' n' e d = blind finished_page r q (finished-one r q) e d (run-same settings map lines s m n l g) (run-kept settings map lines s m) (run-kept settings map lines s n)

  pub run-same-blind : RunSameBlind settings map m n l g
  run-same-blind line k s r q m' n' e d = blind finished_page r q (finished-one r q) e d (same-same settings map line k s m n l g) (same_kept settings map line k s m) (same_kept settings map line k s n)

  pub run-until-blind : RunUntilBlind settings map m n l g
  run-until-blind lines u s r q m' n' e d = blind stopped_page r q (stopped-one r q) e d (until-same settings map lines u s m n l g) (until-kept settings map lines u s m) (until-kept settings map lines u s n)

  -- a step and its line: the text too is the same
  pub write-step-blind : WriteStepBlind settings map m n l g
  write-step-blind line number s text r q m' n' text₁ text₂ e d = line-blind r q e d (show-alike settings map m n l g line number s text)

-- the same for C: the number, the state's bytes, the tally's; w are the settings' bytes
module _ (w map m n : List ℕ) (l : length m ≡ length n) (g : Agree map m n) where
  pub wd16-power-up-blind : Wd16PowerUpBlind w map m n l g
  unfolding power_up_call
  wd16-power-up-blind b k j b₁ b₂ m' n' e d =
      rw (ap (λ z. z.number) e, ap (λ z. z.lent.0) e, ap (λ z. z.lent.1) e, ap (λ z. z.number) d, ap (λ z. z.lent.0) d, ap (λ z. z.lent.1) d)
      (call-blind up_in (λ k. (b, k)) (λ r z. (r, z.0)) (λ z. z.1) (λ r a k l. refl) (λ a k. refl) (λ r k l. refl) (λ k. refl) map m n g (cond (refused_up b w) no_state 0) (power_up_page (settings_from w) m map) (power_up_page (settings_from w) n map) (power-same (settings_from w) map m n l g) (power-kept (settings_from w) map m) (power-kept (settings_from w) map n))

  pub wd16-step-blind : Wd16StepBlind w map m n l g
  unfolding step_call
  wd16-step-blind b line k j b₁ b₂ m' n' e d =
      rw (ap (λ z. z.number) e, ap (λ z. z.lent.0) e, ap (λ z. z.lent.1) e, ap (λ z. z.number) d, ap (λ z. z.lent.0) d, ap (λ z. z.lent.1) d)
      (call-blind step_in (λ k. (b, k)) (λ r z. (r, z.0)) (λ z. z.1) (λ r a k l. refl) (λ a k. refl) (λ r k l. refl) (λ k. refl) map m n g (cond (refused_step b w) no_state 0) (step_page (settings_from w) m map line (state_from b)) (step_page (settings_from w) n map line (state_from b)) (step_same (settings_from w) map line (state_from b) m n l g) (step_kept (settings_from w) map line (state_from b) m) (step_kept (settings_from w) map line (state_from b) n))

  pub wd16-run-blind : Wd16RunBlind w map m n l g
  unfolding run_call
  wd16-run-blind b t lines k j b₁ b₂ t₁ t₂ m' n' e d =
      rw (ap (λ z. z.number) e, ap (λ z. z.lent.0) e, ap (λ z. z.lent.1) e, ap (λ z. z.lent.2) e, ap (λ z. z.number) d, ap (λ z. z.lent.0) d, ap (λ z. z.lent.1) d, ap (λ z. z.lent.2) d)
      (call-blind run_laid (λ k. (b, t, k)) (λ r z. (r, z.0, z.1)) (λ z. z.2) (λ r a k l. refl) (λ a k. refl) (λ r k l. refl) (λ k. refl) map m n g (cond (refused_run b t w) no_state 0) (run_page (settings_from w) m map lines (state_from b)) (run_page (settings_from w) n map lines (state_from b)) (run-same (settings_from w) map lines (state_from b) m n l g) (run-kept (settings_from w) map lines (state_from b) m) (run-kept (settings_from w) map lines (state_from b) n))

  pub wd16-run-same-blind : Wd16RunSameBlind w map m n l g
  unfolding run_same_call
  wd16-run-same-blind b t line steps k j b₁ b₂ t₁ t₂ m' n' e d =
      rw (ap (λ z. z.number) e, ap (λ z. z.lent.0) e, ap (λ z. z.lent.1) e, ap (λ z. z.lent.2) e, ap (λ z. z.number) d, ap (λ z. z.lent.0) d, ap (λ z. z.lent.1) d, ap (λ z. z.lent.2) d)
      (call-blind run_laid (λ k. (b, t, k)) (λ r z. (r, z.0, z.1)) (λ z. z.2) (λ r a k l. refl) (λ a k. refl) (λ r k l. refl) (λ k. refl) map m n g (cond (refused_run b t w) no_state 0) (run_same_page (settings_from w) m map line steps (state_from b)) (run_same_page (settings_from w) n map line steps (state_from b)) (same-same (settings_from w) map line steps (state_from b) m n l g) (same_kept (settings_from w) map line steps (state_from b) m) (same_kept (settings_from w) map line steps (state_from b) n))

  pub wd16-run-until-blind : Wd16RunUntilBlind w map m n l g
  unfolding run_until_call
  wd16-run-until-blind b t lines asked k j b₁ b₂ t₁ t₂ m' n' e d =
      rw (ap (λ z. z.number) e, ap (λ z. z.lent.0) e, ap (λ z. z.lent.1) e, ap (λ z. z.lent.2) e, ap (λ z. z.number) d, ap (λ z. z.lent.0) d, ap (λ z. z.lent.1) d, ap (λ z. z.lent.2) d)
      (call-blind stop_in (λ k. (b, t, k)) (λ r z. (r, z.0, z.1)) (λ z. z.2) (λ r a k l. refl) (λ a k. refl) (λ r k l. refl) (λ k. refl) map m n g (cond (refused_until b t w asked) no_state 0) (run_until_page (settings_from w) m map lines (until_from asked) (state_from b)) (run_until_page (settings_from w) n map lines (until_from asked) (state_from b)) (until-same (settings_from w) map lines (until_from asked) (state_from b) m n l g) (until-kept (settings_from w) map lines (until_from asked) (state_from b) m) (until-kept (settings_from w) map lines (until_from asked) (state_from b) n))

pub list-line-blind : ListLineBlind
list-line-blind map m n l g a last text r q text₁ text₂ e d = one-listed n map a last text text₁ text₂ r q (e ∙ call-alike map m n g last l a text) d

pub wd16-list-line-blind : Wd16ListLineBlind
unfolding list_call
wd16-list-line-blind map m n l g x last text a k j text₁ text₂ a₁ a₂ e d =
    let h = e ∙ ap (λ z. answering next_words_of a (call (answer_why a) z text)) (call-alike map m n g last l x text) ∙ sym d in
    (ap (λ z. z.number) h, ap (λ z. z.lent.0) h, ap (λ z. z.lent.1) h)

-- ---- A JOB FILLS the lent image, the map and the line words from its own bytes, and a run, a listing and a trace are of a job: whatever stands
-- in them before, the answer is the same, and where nothing is refused, so is what is left in them

module _ (a : List ℕ) where
  abbrev kept : List ℕ × List ℕ × List ℕ → JobBuffers
  kept l = (l.0, l.1, l.2, a)

  job_read : (bad why : ℕ) (right : Left ℕ (List ℕ × List ℕ × List ℕ)) (x y : List ℕ × List ℕ × List ℕ) {v w : Told JobBuffers}
      → v ≡ reading job_laid kept (call bad (call why right x) x) → w ≡ reading job_laid kept (call bad (call why right y) y)
      → (v.number ≡ w.number) × (v.lent.3 ≡ w.lent.3) × (v.number ≡ 0 → v ≡ w)
  job_read zero zero right x y e d = let h = e ∙ sym d in (ap (λ z. z.number) h, ap (λ z. z.lent.3) h, λ n. h)
  job_read zero (suc why) right x y e d = (
    ap (λ z. z.number) e ∙ sym (ap (λ z. z.number) d),
    ap (λ z. z.lent.3) e ∙ sym (ap (λ z. z.lent.3) d),
    λ n. absurd (omega (arith, ap (λ z. z.number) e, n)),
  )
  job_read (suc bad) why right x y e d = (
    ap (λ z. z.number) e ∙ sym (ap (λ z. z.number) d),
    ap (λ z. z.lent.3) e ∙ sym (ap (λ z. z.lent.3) d),
    λ n. absurd (omega (arith, ap (λ z. z.number) e, n)),
  )

module _ (input i₁ i₂ m₁ m₂ l₁ l₂ : List ℕ) (hi : length i₁ ≡ length i₂) (hm : length m₁ ≡ length m₂) (hl : length l₁ ≡ length l₂) where
  pub job-blind : JobBlind input i₁ i₂ m₁ m₂ l₁ l₂ hi hm hl
  unfolding job_of
  job-blind r q i₁' m₁' l₁' i₂' m₂' l₂' e d =
      let why = why_read (length i₁) (length m₁) (length l₁) input in
      let right = left (answered (word_at input (lines_at input))) (buffers_of input) in
      let h = same-call {C = ℕ} (λ z. 0) why right (i₁, m₁, l₁) (i₂, m₂, l₂) refl e (rw (← hi, ← hm, ← hl) at d) in
      (one_answer r q h.0, λ z. (ap (λ z. z.lent.0) (h.2 z), ap (λ z. z.lent.1) (h.2 z), ap (λ z. z.lent.2) (h.2 z)))

  pub wd16-read-job-blind : Wd16ReadJobBlind input i₁ i₂ m₁ m₂ l₁ l₂ hi hm hl
  unfolding read_call job_of
  wd16-read-job-blind a k j i₁' m₁' l₁' a₁ i₂' m₂' l₂' a₂ e d =
      let why = why_read (length i₁) (length m₁) (length l₁) input in
      let right = left (answered (word_at input (lines_at input))) (buffers_of input) in
      let h = job_read a (answer_why a) why right (i₁, m₁, l₁) (i₂, m₂, l₂) e (rw (← hi, ← hm, ← hl) at d) in
      (h.0, h.1, λ z. (ap (λ z. z.lent.0) (h.2 z), ap (λ z. z.lent.1) (h.2 z), ap (λ z. z.lent.2) (h.2 z)))

  pub job-run-blind : JobRunBlind input i₁ i₂ m₁ m₂ l₁ l₂ hi hm hl
  unfolding job_run
  job-run-blind r q i₁' m₁' l₁' i₂' m₂' l₂' e d =
      let why = why_read (length i₁) (length m₁) (length l₁) input in
      let h = same-call {C = ℕ} (λ z. 0) why (ran_at input (Bench.run_in input)) (i₁, m₁, l₁) (i₂, m₂, l₂) refl e (rw (← hi, ← hm, ← hl) at d) in
      (finished-one r q h.0, λ z. (ap (λ z. z.lent.0) (h.2 z), ap (λ z. z.lent.1) (h.2 z), ap (λ z. z.lent.2) (h.2 z)))

  pub bench-blind : BenchBlind input i₁ i₂ m₁ m₂ l₁ l₂ hi hm hl
  unfolding bench_of
  bench-blind text r q text₁ text₂ i₁' m₁' l₁' i₂' m₂' l₂' e d =
      let why = bench_why input text i₁ m₁ l₁ in
      let h = same-call (λ z. z.0) why (end_line input text (Bench.run_in input)) (text, i₁, m₁, l₁) (text, i₂, m₂, l₂) refl e (rw (← hi, ← hm, ← hl) at d) in
      ((one-printed r q text₁ text₁ (ap (λ z. left z text₁) h.0)).0, h.1, λ z. (ap (λ z. z.lent.1) (h.2 z), ap (λ z. z.lent.2) (h.2 z), ap (λ z. z.lent.3) (h.2 z)))

  pub list-blind : ListBlind input i₁ i₂ m₁ m₂ l₁ l₂ hi hm hl
  unfolding list_of
  list-blind text r q text₁ text₂ i₁' m₁' l₁' i₂' m₂' l₂' e d =
      let why = list_why input (length text) (length i₁) (length m₁) (length l₁) in
      let h = same-call (λ z. z.0) why (listed_in input text) (text, i₁, m₁, l₁) (text, i₂, m₂, l₂) refl e (rw (← hi, ← hm, ← hl) at d) in
      ((one-printed r q text₁ text₁ (ap (λ z. left z text₁) h.0)).0, h.1, λ z. (ap (λ z. z.lent.1) (h.2 z), ap (λ z. z.lent.2) (h.2 z), ap (λ z. z.lent.3) (h.2 z)))

  pub check-blind : CheckBlind input i₁ i₂ m₁ m₂ l₁ l₂ hi hm hl
  unfolding check_of
  check-blind t r q i₁' m₁' l₁' i₂' m₂' l₂' e d =
      let why = why_check input t (length i₁) (length m₁) (length l₁) in
      let right = left (answered (verdict_page (verdict_of input t))) (buffers_after input) in
      let h = same-call {C = ℕ} (λ z. 0) why right (i₁, m₁, l₁) (i₂, m₂, l₂) refl e (rw (← hi, ← hm, ← hl) at d) in
      (checked-one r q h.0, λ z. (ap (λ z. z.lent.0) (h.2 z), ap (λ z. z.lent.1) (h.2 z), ap (λ z. z.lent.2) (h.2 z)))

  pub make-blind : MakeBlind input i₁ i₂ m₁ m₂ l₁ l₂ hi hm hl
  unfolding make_of
  make-blind out r q out₁ out₂ i₁' m₁' l₁' i₂' m₂' l₂' e d =
      let why = why_make input (length out) (length i₁) (length m₁) (length l₁) in
      let h = same-call (λ z. z.0) why (made_of input out) (out, i₁, m₁, l₁) (out, i₂, m₂, l₂) refl e (rw (← hi, ← hm, ← hl) at d) in
      (made_one r q h.0, h.1, λ z. (ap (λ z. z.lent.1) (h.2 z), ap (λ z. z.lent.2) (h.2 z), ap (λ z. z.lent.3) (h.2 z)))

-- ---- a step by its accesses, and a run's count

pub step-blanked : StepBlanked
step-blanked settings m map line s r m' p e d h = blanked map (heard settings line) s m (step_is settings m map line s r m' p e d) h

pub step-fitted : StepFitted
step-fitted settings m map line s r m' p e d h = fitted map (heard settings line) s m (step_is settings m map line s r m' p e d) h

-- the answer whose bytes a call for C leaves
step-page : After → TurnPage
step-page x = turn_page (record { state = x.state; cause = x.cause })

pub wd16-step-blanked : Wd16StepBlanked
unfolding step-page
wd16-step-blanked b m map w line b' m' e h =
    let x = step_of map (heard (settings_from w) line) (state_from b) m in
    let i = wd16-step-is b m map w line b' m' e in
    record { page = step-page x; bytes = i.0; holds = blanked map (heard (settings_from w) line) (state_from b) m (ap (λ z. left (answered (step-page x)) z) i.1) h }

pub wd16-step-fitted : Wd16StepFitted
unfolding step-page
wd16-step-fitted b m map w line b' m' e h =
    let x = step_of map (heard (settings_from w) line) (state_from b) m in
    let i = wd16-step-is b m map w line b' m' e in
    record { page = step-page x; bytes = i.0; holds = fitted map (heard (settings_from w) line) (state_from b) m (ap (λ z. left (answered (step-page x)) z) i.1) h }

pub run-counted : RunCounted
run-counted settings m map lines s r m' p e d =
    let h = answered-one (ap (λ z. z.page) (run_is settings m map lines s r m' p e d)) in
    rw (ap (λ z. z.blanks) h, ap (λ z. z.first) h) (counted settings map lines s m)

pub wd16-run-counted : Wd16RunCounted
wd16-run-counted b t m map w lines b' t' m' e =
    let i = wd16-run-is b t m map w lines b' t' m' e in
    record { blanks = _; place = _; bytes = i.1; holds = counted (settings_from w) map lines (state_from b) m }
