-- 02, WISH 10: "a step which can't fetch 16 can't fetch 12 either, so it locks and 7 is never given". Whatever calls answer and leave.
use Rattle.std.specs.Prelude.{ℕ, false, List, ◌≡◌}
use Rattle.state.specs.declared.State.{State}
use Rattle.state.specs.declared.Settings.{Settings}
use Rattle.state.specs.declared.Mode.TheVariants.{Locked}
use Rattle.state.specs.State.{heard, with_mode}
use Rattle.step.specs.Step.{kind_of, cause_number}
use Rattle.step.specs.Told.{work_answered}
use Rattle.step.specs.Locks.{Fetches}
use Rattle.refusal.specs.Page.{answered, left, told}
use Rattle.machine.specs.Entry.{Stepped, stepped_page, step_page}
use Rattle.machine.specs.Numbers.{state_page, address, TurnPage}
use Rattle.machine.specs.Trail.{trail_of, cause_at}
use Rattle.machine_c.specs.Layout.{state_bytes, state_from, settings_from}
use Rattle.machine_c.specs.Calls.{step_call}

-- A STEP THAT CAN'T FETCH 16, or can't pick up the nine places, from 0 on, locks: cause 8, with that address, the state as before but the mode, and the
-- image as lent. a is 16 or 0 (`Fetches`)
abbrev pub StepLocks : Type 0
StepLocks = (settings : Settings) (m map : List ℕ) (line : ℕ) (s : State) (r : Stepped) (m' : List ℕ) (p : TurnPage) → left (stepped_page r) m' ≡ step_page settings m map line s → stepped_page r ≡ answered p
    → (a : ℕ) → Fetches (kind_of s (heard settings line)) a → work_answered map (heard settings line) s m ≡ false
    → (p.cause ≡ 8) × (p.told ≡ address a) × (p.state ≡ state_page (with_mode s Locked)) × (m' ≡ m)

-- for C: b are the state's bytes, w the settings'
abbrev pub Wd16StepLocks : Type 0
Wd16StepLocks = (b m map w : List ℕ) (line : ℕ) (b' m' : List ℕ) → told 0 (b', m') ≡ step_call b m map w line
    → (a : ℕ) → Fetches (kind_of (state_from b) (heard (settings_from w) line)) a → work_answered map (heard (settings_from w) line) (state_from b) m ≡ false
    → (b' ≡ state_bytes (state_page (with_mode (state_from b) Locked)) 8 (address a)) × (m' ≡ m)

-- 7 IS NEVER GIVEN: by a step, and at no place of a run
abbrev pub StepNot7 : Type 0
StepNot7 = (settings : Settings) (m map : List ℕ) (line : ℕ) (s : State) (r : Stepped) (m' : List ℕ) (p : TurnPage) → left (stepped_page r) m' ≡ step_page settings m map line s → stepped_page r ≡ answered p
    → p.cause ≡ 7 → ⊥

abbrev pub RunNot7 : Type 0
RunNot7 = (settings : Settings) (map lines : List ℕ) (s : State) (m : List ℕ) (k : ℕ) → cause_number (cause_at (trail_of settings map lines s m) k) ≡ 7 → ⊥
