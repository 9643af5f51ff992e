-- The run for C: from its bytes to the run's answer.
use Rattle.std.specs.Prelude.{Option, Some, None, Ok}
use Prim.Native.Nat.{ℕ, ◌<◌, ◌≤◌}
use native.Mathlib.Omega.{arith}
use mathlib.Core.Bool.{Bool, true, false, cond}
use mathlib.Core.List.{List}
use mathlib.Core.Path.{◌≡◌, refl, sym, ap, ◌∙◌}
use lib.ListN.{length}
use borrow.Author.Tests.{eq-eqb, ne_eqb}
use Rattle.state.specs.declared.State.{State}
use Rattle.state.specs.declared.Settings.{Settings}
use Rattle.state.specs.State.{heard, mode_number}
use Rattle.step.specs.declared.Cause.{Cause}
use Rattle.step.specs.declared.Cause.TheVariants as Cause
use Rattle.step.specs.Step.{After, step_of, power_up_of, cause_number, is_blank}
use Rattle.refusal.specs.Numbers.{no_state}
use Rattle.refusal.specs.Page.{left, Told, told, reading}
use Rattle.refusal.proofs.Laws.Page.{first-both}
use Rattle.wordbytes.specs.Words.{byte_at, word_at}
use Rattle.wordbytes.proofs.Laws.{word-again}
use Rattle.machine.specs.declared.Ran.{Ran}
use Rattle.machine.specs.declared.FirstBlank.{FirstBlank}
use Rattle.machine.specs.Numbers.{state_page, Address, nowhere, first_page, FirstPage, turn_page}
use Rattle.machine.specs.Run.{End, end, run_of, ran_of}
use Rattle.machine.specs.Trail.{trail_of, place_moved, first_blank_in, Least, least}
use Rattle.machine.specs.Counted.{or_first}
use Rattle.machine.proofs.Laws.Counted.{run-trail, first-least, trail-length}
use Rattle.step.specs.declared.Turn.{Turn}
use Rattle.machine_c.proofs.Laws.Again.{state-again}
use Rattle.machine.specs.Entry.{run_why, finished_page, run_page, step_why, stepped_page, step_page, power_why, powered_page, power_up_page}
use Rattle.machine.proofs.Laws.Entry.{run-answered}
use Rattle.machine.specs.Entry as Entry
use Rattle.machine_c.specs.Layout.{state_bytes, tally_bytes, place_number, place_told, state_from, settings_from, refused_state, refused_settings, refused_up, refused_step, refused_run, not_tally}
use Rattle.machine_c.specs.Calls.{up_in, power_up_call, run_laid, run_call, step_in, step_call}
use Rattle.demands.proofs.Laws.Demand1.{wd16-power-up-answers, wd16-step-answers, wd16-run-answers}
use Rattle.refusal.proofs.Laws.Refusal.{neither}
use Rattle.laws.specs.Halves.{first_place, first_told}

-- a tally's bytes
abbrev pub bytes_for : Ran → List ℕ
bytes_for a = tally_bytes a.tally.blanks (first_page a.tally.first)

-- ---- a call that isn't refused leaves the bytes of what the run answers

pub record CallDone (b m map w lines b' t' m' : List ℕ) : Type 0 where
  pub ran : Ran
  pub page : left (finished_page (Ok ran)) m' ≡ run_page (settings_from w) m map lines (state_from b)
  pub state : b' ≡ state_bytes (state_page ran.state) 0 nowhere
  pub tally : t' ≡ bytes_for ran

pub call-answered : (b t m map w lines : List ℕ) (k : ℕ) (b' t' m' : List ℕ) → refused_run b t w ≡ false → run_why (settings_from w) m map lines ≡ 0
    → told k (b', t', m') ≡ run_call b t m map w lines → (k ≡ 0) × CallDone b m map w lines b' t' m'
unfolding run_call run_page
call-answered b t m map w lines k b' t' m' h why e = at (run_of (settings_from w) map lines (state_from b) m) refl (rw (h, why) at e)
  where
    at : (x : End) → run_of (settings_from w) map lines (state_from b) m ≡ x → told k (b', t', m') ≡ reading run_laid (λ z. (b, t, z)) (Entry.run_end x) → (k ≡ 0) × CallDone b m map w lines b' t' m'
    at (end s n y) d e =
        let image : m' ≡ n = ap (λ z. z.lent.2) e in (
          ap (λ z. z.number) e,
          record {
            ran = record { state = s; tally = y };
            page = run-answered (settings_from w) m map lines (state_from b) (record { state = s; tally = y }) m' why (ap (λ z. end s z y) image ∙ sym d);
            state = ap (λ z. z.lent.0) e;
            tally = ap (λ z. z.lent.1) e;
          },
        )

-- ---- buffers that aren't refused

pub settings-taken : (b w : List ℕ) → refused_step b w ≡ false → refused_settings w ≡ false
unfolding refused_step
settings-taken b w e = (neither (refused_state b) (refused_settings w) e).1

pub buffers-taken : (b t w : List ℕ) → refused_state b ≡ false → refused_settings w ≡ false → length t ≡ 6 → refused_run b t w ≡ false
unfolding refused_run refused_step
buffers-taken b t w h g l = rw (h, g, eq-eqb (length t) 6 l)

pub step-taken : (b w : List ℕ) → refused_step b w ≡ false → refused_state b ≡ false
unfolding refused_step
step-taken b w e = (neither (refused_state b) (refused_settings w) e).0

-- ---- a state's cause, and a tally's words

pub cause-byte : (s : State) (cause : ℕ) (at : Address) → byte_at (state_bytes (state_page s) cause at) 19 ≡ cause
unfolding state_bytes state_page
cause-byte s cause at = refl

pub blanks-word : (n : ℕ) (p : FirstPage) → word_at (tally_bytes n p) 0 ≡ n
unfolding tally_bytes
blanks-word n p = word-again n

pub place-word : (n : ℕ) (p : FirstPage) → word_at (tally_bytes n p) 2 ≡ place_number p
unfolding tally_bytes
place-word n p = word-again (place_number p)

pub told-word : (n : ℕ) (p : FirstPage) → word_at (tally_bytes n p) 4 ≡ place_told p
unfolding tally_bytes
told-word n p = word-again (place_told p)

-- ---- the first blank of two calls, by the words of their tallies

-- a place is below FFFF, so that FFFF is none
abbrev pub Within : Option FirstBlank → Type 0
Within f = (b : FirstBlank) → f ≡ Some b → b.place < 65535

pub place_after : (n : ℕ) (f g : Option FirstBlank) → Within f → Within g → place_number (first_page (or_first f (place_moved n g))) ≡ first_place n (place_number (first_page f)) (place_number (first_page g))
place_after n (Some b) g h k = let low = h b refl in rw (ne_eqb b.place 65535 (λ z. omega arith))
place_after n None (Some b) h k = let low = k b refl in rw (ne_eqb b.place 65535 (λ z. omega arith))
place_after n None None h k = refl

pub told-after : (n : ℕ) (f g : Option FirstBlank) → Within f → place_told (first_page (or_first f (place_moved n g))) ≡ first_told (place_number (first_page f)) (place_told (first_page f)) (place_told (first_page g))
told-after n (Some b) g h = let low = h b refl in rw (ne_eqb b.place 65535 (λ z. omega arith))
told-after n None (Some b) h = refl
told-after n None None h = refl

-- a run's first place is one of its steps'
pub run-low : (settings : Settings) (map lines : List ℕ) (s : State) (m : List ℕ) (a : Ran) (n : List ℕ) → ran_of a n ≡ run_of settings map lines s m → length lines ≤ 65535 → Within a.tally.first
run-low settings map lines s m a n e l =
    let same : a.tally.first ≡ first_blank_in (trail_of settings map lines s m) = ap first_of (e ∙ run-trail settings map lines s m Cause.Nothing) in
    rw same (low (first_blank_in (trail_of settings map lines s m)) (trail_of settings map lines s m) (trail-length settings map lines s m) (first-least (trail_of settings map lines s m)))
  where
    first_of : End → Option FirstBlank
    first_of (end t k y) = y.first

    place_of : Option FirstBlank → ℕ
    place_of (Some b) = b.place
    place_of None = 0

    low : (f : Option FirstBlank) (rs : List After) → length rs ≡ length lines → Least rs (first_page f) → Within f
    low (Some f) rs k (least i h g) b d = let z : f.place ≡ b.place = ap place_of d in omega arith
    low None rs k h b d = let z : ◌≡◌ {A = ℕ} 0 1 = cc in absurd (omega arith)

-- ---- a call that answers 0 wasn't refused

pub told_none : (b : Bool) → cond b no_state 0 ≡ 0 → b ≡ false
told_none true e = absurd (omega arith)
told_none false e = refl

pub run-not-refused : (b t m map w lines b' t' m' : List ℕ) → told 0 (b', t', m') ≡ run_call b t m map w lines → (refused_run b t w ≡ false) × (run_why (settings_from w) m map lines ≡ 0)
run-not-refused b t m map w lines b' t' m' e =
    let both = first-both (cond (refused_run b t w) no_state 0) (run_why (settings_from w) m map lines) (sym (wd16-run-answers b t m map w lines (told 0 (b', t', m')) e).number_is) in
    (told_none (refused_run b t w) both.0, both.1)

pub step-not-refused : (b m map w : List ℕ) (line : ℕ) (b' m' : List ℕ) → told 0 (b', m') ≡ step_call b m map w line → (refused_step b w ≡ false) × (step_why (settings_from w) m map line ≡ 0)
step-not-refused b m map w line b' m' e =
    let both = first-both (cond (refused_step b w) no_state 0) (step_why (settings_from w) m map line) (sym (wd16-step-answers b m map w line (told 0 (b', m')) e).number_is) in
    (told_none (refused_step b w) both.0, both.1)

-- with another tally's buffer it isn't refused either
pub tally-taken : (b t t' w : List ℕ) → refused_run b t w ≡ false → length t' ≡ 6 → refused_run b t' w ≡ false
unfolding refused_run
tally-taken b t t' w e l = rw ((neither (refused_step b w) (not_tally t) e).0, eq-eqb (length t') 6 l)

-- what a step leaves that isn't refused
abbrev pub stepped_in : After → Told (List ℕ × List ℕ)
stepped_in a = told 0 (step_in (turn_page (record { state = a.state; cause = a.cause })) a.image)

pub step-call-is : (b m map w : List ℕ) (line : ℕ) → refused_step b w ≡ false → step_why (settings_from w) m map line ≡ 0 → step_call b m map w line ≡ stepped_in (step_of map (heard (settings_from w) line) (state_from b) m)
unfolding step_call step_page
step-call-is b m map w line h e = rw (h, e)

-- ---- what the bytes say

pub mode-byte : (s : State) (cause : ℕ) (at : Address) → byte_at (state_bytes (state_page s) cause at) 18 ≡ mode_number s.mode
unfolding state_bytes state_page
mode-byte s cause at = refl

-- a cause other than 5, 6 and 9 is no blank
pub number-no-blank : (c : Cause) → (cause_number c ≡ 5 → ⊥) → (cause_number c ≡ 6 → ⊥) → (cause_number c ≡ 9 → ⊥) → is_blank c ≡ false
number-no-blank Cause.OpCode f s n = refl
number-no-blank Cause.Switch f s n = refl
number-no-blank Cause.NonVectored f s n = refl
number-no-blank Cause.Vectored f s n = refl
number-no-blank Cause.Nothing f s n = refl
number-no-blank (Cause.OpCodeBlank a) f s n = absurd (f refl)
number-no-blank (Cause.InterruptBlank a) f s n = absurd (s refl)
number-no-blank (Cause.SaveBlank a) f s n = absurd (n refl)
number-no-blank (Cause.LockedAt a) f s n = refl
number-no-blank Cause.Locked f s n = refl

-- ---- a step for C that is not refused: what `step` answers, in bytes

pub record StepDone (w b m map : List ℕ) (line : ℕ) (b' m' : List ℕ) : Type 0 where
  pub turn : Turn
  pub page : left (stepped_page (Ok turn)) m' ≡ step_page (settings_from w) m map line (state_from b)
  pub state : state_from b' ≡ turn.state
  pub cause : byte_at b' 19 ≡ cause_number turn.cause

pub step-done : (w b m map : List ℕ) (line : ℕ) (b' m' : List ℕ) → told 0 (b', m') ≡ step_call b m map w line → StepDone w b m map line b' m'
unfolding step_page
step-done w b m map line b' m' e =
    let free = step-not-refused b m map w line b' m' e in
    let a = step_of map (heard (settings_from w) line) (state_from b) m in
    let is = e ∙ step-call-is b m map w line free.0 free.1 in
    let bytes = ap (λ z. z.lent.0) is in
    record {
      turn = record { state = a.state; cause = a.cause };
      page = rw (free.1, ap (λ z. z.lent.1) is) refl;
      state = ap state_from bytes ∙ state-again a.state _ _;
      cause = ap (λ z. byte_at z 19) bytes ∙ cause-byte a.state _ _;
    }

-- causes by their numbers
pub cause-0 : (c : Cause) → cause_number c ≡ 0 → c ≡ Cause.OpCode
cause-0 Cause.OpCode e = refl
cause-0 Cause.Switch e = absurd (omega (arith, e))
cause-0 Cause.NonVectored e = absurd (omega (arith, e))
cause-0 Cause.Vectored e = absurd (omega (arith, e))
cause-0 Cause.Nothing e = absurd (omega (arith, e))
cause-0 (Cause.OpCodeBlank a) e = absurd (omega (arith, e))
cause-0 (Cause.InterruptBlank a) e = absurd (omega (arith, e))
cause-0 (Cause.SaveBlank a) e = absurd (omega (arith, e))
cause-0 (Cause.LockedAt a) e = absurd (omega (arith, e))
cause-0 Cause.Locked e = absurd (omega (arith, e))

pub cause-5 : (c : Cause) → cause_number c ≡ 5 → (a : ℕ) × (c ≡ Cause.OpCodeBlank a)
cause-5 Cause.OpCode e = absurd (omega (arith, e))
cause-5 Cause.Switch e = absurd (omega (arith, e))
cause-5 Cause.NonVectored e = absurd (omega (arith, e))
cause-5 Cause.Vectored e = absurd (omega (arith, e))
cause-5 Cause.Nothing e = absurd (omega (arith, e))
cause-5 (Cause.OpCodeBlank a) e = (a, refl)
cause-5 (Cause.InterruptBlank a) e = absurd (omega (arith, e))
cause-5 (Cause.SaveBlank a) e = absurd (omega (arith, e))
cause-5 (Cause.LockedAt a) e = absurd (omega (arith, e))
cause-5 Cause.Locked e = absurd (omega (arith, e))

-- ---- and a power-up

pub record PowerDone (w b m map b' m' : List ℕ) : Type 0 where
  pub up : State
  pub page : left (powered_page (Ok up)) m' ≡ power_up_page (settings_from w) m map
  pub state : state_from b' ≡ up

pub power-done : (w b m map b' m' : List ℕ) → told 0 (b', m') ≡ power_up_call b m map w → PowerDone w b m map b' m'
unfolding power_up_call power_up_page
power-done w b m map b' m' e =
    let both = first-both (cond (refused_up b w) no_state 0) (power_why (settings_from w) m map) (sym (wd16-power-up-answers b m map w (told 0 (b', m')) e).number_is) in
    let u = power_up_of (settings_from w) map m in
    let is : told 0 (b', m') ≡ told 0 (up_in (state_page u.state) u.image) = rw (told_none (refused_up b w) both.0, both.1) at e in
    record {
      up = u.state;
      page = rw (both.1, ap (λ z. z.lent.1) is) refl;
      state = ap (λ z. state_from z.lent.0) is ∙ state-again u.state 0 nowhere;
    }
