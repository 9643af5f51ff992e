-- A call that was not refused leaves the bytes of a state: the next call does not refuse them.
use Prim.Native.Nat.{ℕ, zero, suc}
use mathlib.Core.Bool.{false, cond}
use mathlib.Core.List.{List}
use mathlib.Core.Path.{◌≡◌}
use native.Mathlib.Omega.{arith}
use lib.ListN.{take, replicate}
use Rattle.state.specs.State.{heard}
use Rattle.step.specs.declared.Cause.{Cause}
use Rattle.step.proofs.Laws.Causes.{cause-le}
use Rattle.step.specs.Step.{cause_number, cause_address, step_of, power_up_of}
use Rattle.machine.specs.Run.{End, end, run_of, last_cause}
use Rattle.machine.specs.Same.{run_same_page}
use Rattle.machine.specs.Until.{steps_to, stopped, run_until_page}
use Rattle.refusal.specs.Page.{Left, call, reading}
use Rattle.refusal.specs.Numbers.{no_state}
use Rattle.machine.specs.Numbers.{nowhere, told_of}
use Rattle.machine.specs.Entry.{power_why, step_why, run_why, powered, power_up_page, turned, step_page, run_end, run_page}
use Rattle.machine_c.specs.Layout.{refused_state, refused_up, refused_step, refused_run, state_from, settings_from}
use Rattle.machine_c.proofs.Laws.Again.{state-taken}
use Rattle.machine_c.specs.Runs.{run_same_call, until_from, refused_until, stop_in, run_until_call}
use Rattle.machine_c.specs.Calls.{up_in, step_in, run_laid, power_up_call, step_call, run_call}

-- of two refusals in a row neither applies, or the number is not 0; `state` is where the bytes of the state stand
module _ {A C : Type 0} (bytes : A → List ℕ → C) (kept : List ℕ → C) (state : C → List ℕ) (image : List ℕ) (right : Left A (List ℕ)) where
  next : (bad why : ℕ) → ((reading bytes kept right).number ≡ 0 → refused_state (state (reading bytes kept right).lent) ≡ false)
      → (reading bytes kept (call bad (call why right image) image)).number ≡ 0
      → refused_state (state (reading bytes kept (call bad (call why right image) image)).lent) ≡ false
  next zero zero h e = h e
  next zero (suc why) h e = absurd (omega (arith, e))
  next (suc bad) why h e = absurd (omega (arith, e))

-- AFTER A POWER-UP
pub next_up : (b image map w : List ℕ) → (power_up_call b image map w).number ≡ 0 → refused_state (power_up_call b image map w).lent.0 ≡ false
unfolding power_up_call power_up_page
next_up b image map w e =
    let u = power_up_of (settings_from w) map image in
    next up_in (λ m. (b, m)) (λ z. z.0) image (powered u) (cond (refused_up b w) no_state 0) (power_why (settings_from w) image map) (λ d. state-taken u.state 0 nowhere (omega arith)) e

-- AFTER A STEP
pub next-step : (b image map w : List ℕ) (line : ℕ) → (step_call b image map w line).number ≡ 0 → refused_state (step_call b image map w line).lent.0 ≡ false
unfolding step_call step_page
next-step b image map w line e =
    let a = step_of map (heard (settings_from w) line) (state_from b) image in
    next step_in (λ m. (b, m)) (λ z. z.0) image (turned a) (cond (refused_step b w) no_state 0) (step_why (settings_from w) image map line)
    (λ d. state-taken a.state (cause_number a.cause) (told_of (cause_address a.cause)) (cause-le a.cause)) e

-- AFTER A RUN
ran-taken : (b t : List ℕ) (x : End) → (reading run_laid (λ m. (b, t, m)) (run_end x)).number ≡ 0 → refused_state (reading run_laid (λ m. (b, t, m)) (run_end x)).lent.0 ≡ false
ran-taken b t (end s m y) d = state-taken s 0 nowhere (omega arith)

pub next-run : (b t image map w lines : List ℕ) → (run_call b t image map w lines).number ≡ 0 → refused_state (run_call b t image map w lines).lent.0 ≡ false
unfolding run_call run_page
next-run b t image map w lines e =
    let x = run_of (settings_from w) map lines (state_from b) image in
    next run_laid (λ m. (b, t, m)) (λ z. z.0) image (run_end x) (cond (refused_run b t w) no_state 0) (run_why (settings_from w) image map lines) (ran-taken b t x) e

-- over one line word
pub next-same : (b t image map w : List ℕ) (line n : ℕ) → (run_same_call b t image map w line n).number ≡ 0 → refused_state (run_same_call b t image map w line n).lent.0 ≡ false
unfolding run_same_call run_same_page
next-same b t image map w line n e =
    let x = run_of (settings_from w) map (replicate n line) (state_from b) image in
    next run_laid (λ m. (b, t, m)) (λ z. z.0) image (run_end x) (cond (refused_run b t w) no_state 0) (step_why (settings_from w) image map line) (ran-taken b t x) e

-- and until something happens
pub next-until : (b t image map w lines : List ℕ) (asked : ℕ) → (run_until_call b t image map w lines asked).number ≡ 0 → refused_state (run_until_call b t image map w lines asked).lent.0 ≡ false
unfolding run_until_call run_until_page
next-until b t image map w lines asked e =
    let u = until_from asked in
    let n = steps_to (settings_from w) map u lines (state_from b) image in
    let x = run_of (settings_from w) map (take n lines) (state_from b) image in
    let c = last_cause (settings_from w) map (take n lines) (state_from b) image Cause.Nothing in
    next stop_in (λ m. (b, t, m)) (λ z. z.0) image (stopped x c n) (cond (refused_until b t w asked) no_state 0) (run_why (settings_from w) image map lines) (by x c n) e
  where
    by : (x : End) (c : Cause) (n : ℕ) → (reading stop_in (λ m. (b, t, m)) (stopped x c n)).number ≡ 0 → refused_state (reading stop_in (λ m. (b, t, m)) (stopped x c n)).lent.0 ≡ false
    by (end s m y) c n d = state-taken s (cause_number c) (told_of (cause_address c)) (cause-le c)
