-- From the code's facts to what the exported calls leave.
pub mod Again
pub mod Laid
pub mod Next
use Rattle.std.specs.Prelude.{Option}
use Rattle.std.proofs.Common.{Ok, Err}
use Prim.Native.Nat.{ℕ}
use mathlib.Core.Bool.{true, false, not, ◌||◌}
use mathlib.Core.List.{List, ◌++◌, append-nil}
use mathlib.Core.Path.{sym, ◌≡◌, refl, ◌∙◌}
use lib.ListN.{length, take, drop}
use lib.Seq.{take-length, drop-length}
use borrow.Author.Tests.{eqb-true, ne_eqb, not-false}
use Rattle.state.specs.declared.State.{State}
use Rattle.state.specs.declared.Settings.{Settings}
use Rattle.step.specs.declared.Turn.{Turn}
use Rattle.step.specs.Step.{cause_number, cause_address}
use Rattle.machine.specs.declared.Ran.{Ran}
use Rattle.machine.specs.Entry.{Powered, Stepped, Finished, powered_page, stepped_page, finished_page, power_up_page, step_page, run_page}
use Rattle.refusal.specs.Numbers.{no_state}
use Rattle.refusal.specs.Page.{left, told}
use Rattle.refusal.proofs.Laws.Refusal.{neither}
use Rattle.machine.specs.Numbers.{state_page, nowhere, told_of, first_page, FirstPage}
use lib.Dec.{eqb, ltb}
use Rattle.machine.specs.declared.Stop.{Stop}
use Rattle.machine.specs.declared.Until.{Until}
use Rattle.machine.specs.Until.{Stopped, stopped_page, run_until_page}
use Rattle.machine.specs.Same.{run_same_page}
use Rattle.machine_c.specs.Runs.{run_same_call, until_from, stop_bytes, refused_until, run_until_call}
use Rattle.machine_c.specs.Layout.{state_bytes, tally_bytes, state_from, settings_from, state_refused, not_state, not_tally, refused_state, refused_settings, refused_up, refused_step, refused_run, laid}
use Rattle.machine_c.proofs.Laws.Laid.{laid-all, laid-state, laid-tally}
use Rattle.refusal.specs.declared.Refusal.{Refusal}
use Rattle.refusal.specs.Answer.{number}
use Rattle.machine_c.specs.Calls.{power_up_call, step_call, run_call}

-- bytes are copied over a buffer of as many, and another is left as lent
pub laid-copy : (bytes from b b' : List ℕ) → from ≡ bytes → length b ≡ length bytes → b' ≡ from → b' ≡ laid bytes b
laid-copy bytes from b b' q l e = e ∙ q ∙ sym (laid-all bytes b l)

pub laid_none : (bytes b : List ℕ) → (length b ≡ length bytes → ⊥) → b ≡ laid bytes b
unfolding laid
laid_none bytes b n = rw (ne_eqb (length b) (length bytes) n) refl

-- ---- what is not refused has its length

state-length : (b : List ℕ) → not_state b ≡ false → length b ≡ 24
state-length b e = eqb-true _ _ (not-false _ e)

up-length : (b w : List ℕ) → refused_up b w ≡ false → length b ≡ 24
unfolding refused_up
up-length b w e = state-length b (neither (not_state b) (refused_settings w) e).0

step-length : (b w : List ℕ) → refused_step b w ≡ false → length b ≡ 24
unfolding refused_state refused_step
step-length b w e = state-length b (neither (not_state b) (state_refused b) (neither (refused_state b) (refused_settings w) e).0).0

run_length : (b t w : List ℕ) → refused_run b t w ≡ false → length b ≡ 24
unfolding refused_run
run_length b t w e = step-length b w (neither (refused_step b w) (not_tally t) e).0

tally-length : (b t w : List ℕ) → refused_run b t w ≡ false → length t ≡ 6
unfolding refused_run
tally-length b t w e = eqb-true _ _ (not-false _ (neither (refused_step b w) (not_tally t) e).1)

-- ---- power-up

module _ (b image map w : List ℕ) where
  pub up-bad : refused_up b w ≡ true → told no_state (b, image) ≡ power_up_call b image map w
  unfolding power_up_call
  up-bad e = rw e

  pub up_done : (b' m : List ℕ) (g : Settings) (s : State) (r : Powered) → refused_up b w ≡ false → g ≡ settings_from w → left (powered_page r) m ≡ power_up_page g image map
      → r ≡ Ok s → b' ≡ laid (state_bytes (state_page s) 0 nowhere) b → told 0 (b', m) ≡ power_up_call b image map w
  unfolding power_up_call
  up_done b' m g s r e j f h d = rw (e, ← j, ← f, h, d, laid-state b s 0 nowhere (up-length b w e))

  pub up-refused : (m : List ℕ) (g : Settings) (n : ℕ) (why : Refusal) (r : Powered) → refused_up b w ≡ false → g ≡ settings_from w → left (powered_page r) m ≡ power_up_page g image map
      → r ≡ Err why → n ≡ number why → told n (b, m) ≡ power_up_call b image map w
  unfolding power_up_call
  up-refused m g n why r e j f h q = rw (e, ← j, ← f, h, q)

-- ---- one step

module _ (b image map w : List ℕ) (line : ℕ) where
  pub went-bad : refused_step b w ≡ true → told no_state (b, image) ≡ step_call b image map w line
  unfolding step_call
  went-bad e = rw e

  pub went-done : (b' m : List ℕ) (s : State) (g : Settings) (t : Turn) (r : Stepped) (k : ℕ) (at : Option ℕ) → refused_step b w ≡ false → s ≡ state_from b → g ≡ settings_from w
      → left (stepped_page r) m ≡ step_page g image map line s → r ≡ Ok t → k ≡ cause_number t.cause → at ≡ cause_address t.cause
      → b' ≡ laid (state_bytes (state_page t.state) k (told_of at)) b → told 0 (b', m) ≡ step_call b image map w line
  unfolding step_call
  went-done b' m s g t r k at e f j p h c a d =
      rw (e, ← f, ← j, ← p, h, d, laid-state b t.state k (told_of at) (step-length b w e), c, a)

  pub went-refused : (m : List ℕ) (s : State) (g : Settings) (n : ℕ) (why : Refusal) (r : Stepped) → refused_step b w ≡ false → s ≡ state_from b → g ≡ settings_from w
      → left (stepped_page r) m ≡ step_page g image map line s → r ≡ Err why → n ≡ number why → told n (b, m) ≡ step_call b image map w line
  unfolding step_call
  went-refused m s g n why r e f j p h q = rw (e, ← f, ← j, ← p, h, q)

-- ---- a run

module _ (b t image map w lines : List ℕ) where
  pub ended-bad : refused_run b t w ≡ true → told no_state (b, t, image) ≡ run_call b t image map w lines
  unfolding run_call
  ended-bad e = rw e

  pub ended-done : (b' t' m : List ℕ) (s : State) (g : Settings) (ran : Ran) (r : Finished) → refused_run b t w ≡ false → s ≡ state_from b → g ≡ settings_from w
      → left (finished_page r) m ≡ run_page g image map lines s → r ≡ Ok ran
      → b' ≡ laid (state_bytes (state_page ran.state) 0 nowhere) b → t' ≡ laid (tally_bytes ran.tally.blanks (first_page ran.tally.first)) t
      → told 0 (b', t', m) ≡ run_call b t image map w lines
  unfolding run_call
  ended-done b' t' m s g ran r e f j p h d q =
      rw (e, ← f, ← j, ← p, h, d, laid-state b ran.state 0 nowhere (run_length b t w e), q, laid-tally t ran.tally.blanks (first_page ran.tally.first) (tally-length b t w e))

  pub ended-refused : (m : List ℕ) (s : State) (g : Settings) (n : ℕ) (why : Refusal) (r : Finished) → refused_run b t w ≡ false → s ≡ state_from b → g ≡ settings_from w
      → left (finished_page r) m ≡ run_page g image map lines s → r ≡ Err why → n ≡ number why → told n (b, t, m) ≡ run_call b t image map w lines
  unfolding run_call
  ended-refused m s g n why r e f j p h q = rw (e, ← f, ← j, ← p, h, q)

-- ---- over one line word

module _ (b t image map w : List ℕ) (line n : ℕ) where
  pub same-bad : refused_run b t w ≡ true → told no_state (b, t, image) ≡ run_same_call b t image map w line n
  unfolding run_same_call
  same-bad e = rw e

  pub same-done : (b' t' m : List ℕ) (s : State) (g : Settings) (ran : Ran) (r : Finished) → refused_run b t w ≡ false → s ≡ state_from b → g ≡ settings_from w
      → left (finished_page r) m ≡ run_same_page g image map line n s → r ≡ Ok ran
      → b' ≡ laid (state_bytes (state_page ran.state) 0 nowhere) b → t' ≡ laid (tally_bytes ran.tally.blanks (first_page ran.tally.first)) t
      → told 0 (b', t', m) ≡ run_same_call b t image map w line n
  unfolding run_same_call
  same-done b' t' m s g ran r e f j p h d q =
      rw (e, ← f, ← j, ← p, h, d, laid-state b ran.state 0 nowhere (run_length b t w e), q, laid-tally t ran.tally.blanks (first_page ran.tally.first) (tally-length b t w e))

  pub same-refused : (m : List ℕ) (s : State) (g : Settings) (k : ℕ) (why : Refusal) (r : Finished) → refused_run b t w ≡ false → s ≡ state_from b → g ≡ settings_from w
      → left (finished_page r) m ≡ run_same_page g image map line n s → r ≡ Err why → k ≡ number why → told k (b, t, m) ≡ run_same_call b t image map w line n
  unfolding run_same_call
  same-refused m s g k why r e f j p h q = rw (e, ← f, ← j, ← p, h, q)

-- ---- until something happens

laid_stop : (t : List ℕ) (blanks : ℕ) (first : FirstPage) (steps : ℕ) → length t ≡ 8 → laid (stop_bytes blanks first steps) t ≡ stop_bytes blanks first steps
unfolding stop_bytes
laid_stop t blanks first steps e = laid-all _ t e

module _ (b t w : List ℕ) (asked : ℕ) (e : refused_until b t w asked ≡ false) where
  buffers : refused_step b w || not (eqb (length t) 8) ≡ false
  unfolding refused_until
  buffers = (neither (refused_step b w || not (eqb (length t) 8)) (ltb 15 asked) e).0

  until-state : length b ≡ 24
  until-state = step-length b w (neither (refused_step b w) (not (eqb (length t) 8)) buffers).0

  until-tally : length t ≡ 8
  until-tally = eqb-true _ _ (not-false _ (neither (refused_step b w) (not (eqb (length t) 8)) buffers).1)

module _ (b t image map w lines : List ℕ) (asked : ℕ) where
  pub until-bad : refused_until b t w asked ≡ true → told no_state (b, t, image) ≡ run_until_call b t image map w lines asked
  unfolding run_until_call
  until-bad e = rw e

  pub until-done : (b' t' m : List ℕ) (s : State) (g : Settings) (u : Until) (stop : Stop) (r : Stopped) (k : ℕ) (at : Option ℕ) → refused_until b t w asked ≡ false → s ≡ state_from b → g ≡ settings_from w
      → u ≡ until_from asked → left (stopped_page r) m ≡ run_until_page g image map lines u s → r ≡ Ok stop → k ≡ cause_number stop.turn.cause → at ≡ cause_address stop.turn.cause
      → b' ≡ laid (state_bytes (state_page stop.turn.state) k (told_of at)) b → t' ≡ laid (stop_bytes stop.tally.blanks (first_page stop.tally.first) stop.steps) t
      → told 0 (b', t', m) ≡ run_until_call b t image map w lines asked
  unfolding run_until_call
  until-done b' t' m s g u stop r k at e f j i p h c a d q =
      rw (
        e,
        ← f,
        ← j,
        ← i,
        ← p,
        h,
        d,
        laid-state b stop.turn.state k (told_of at) (until-state b t w asked e),
        q,
        laid_stop t stop.tally.blanks (first_page stop.tally.first) stop.steps (until-tally b t w asked e),
        c,
        a,
      )

  pub until-refused : (m : List ℕ) (s : State) (g : Settings) (u : Until) (n : ℕ) (why : Refusal) (r : Stopped) → refused_until b t w asked ≡ false → s ≡ state_from b → g ≡ settings_from w → u ≡ until_from asked
      → left (stopped_page r) m ≡ run_until_page g image map lines u s → r ≡ Err why → n ≡ number why → told n (b, t, m) ≡ run_until_call b t image map w lines asked
  unfolding run_until_call
  until-refused m s g u n why r e f j i p h q = rw (e, ← f, ← j, ← i, ← p, h, q)
