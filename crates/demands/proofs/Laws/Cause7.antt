-- The theorems that specs/Cause7.antt states.
use mathlib.Core.Path.{refl, sym, ap, ◌∙◌}
use Rattle.state.specs.declared.Mode.TheVariants.{Locked}
use Rattle.state.specs.State.{heard, with_mode}
use Rattle.step.specs.declared.Cause.TheVariants.{LockedAt}
use Rattle.step.specs.Step.{After, after, step_of, cause_number, cause_address}
use Rattle.step.proofs.Laws.Causes.{cause-not-7}
use Rattle.step.proofs.Laws.Locks.{cant-fetch}
use Rattle.machine.specs.Numbers.{state_page, told_of}
use Rattle.machine.specs.Entry.{turned}
use Rattle.machine.specs.Trail.{trail_of, cause_at}
use Rattle.machine_c.specs.Layout.{state_bytes, state_from, settings_from}
use Rattle.demands.proofs.Laws.Blanks.{cause-is, told_is, state-is, image-is}
use Rattle.demands.proofs.Laws.Demand2.{step_is, wd16-step-is}
use Rattle.demands.specs.Cause7.{StepLocks, Wd16StepLocks, StepNot7, RunNot7}

pub step-locks : StepLocks
step-locks settings m map line s r m' p e d a k h =
    let x = after (with_mode s Locked) m (LockedAt a) in
    let i = step_is settings m map line s r m' p e d ∙ ap turned (cant-fetch map (heard settings line) s m k refl h) in
    (cause-is x i, told_is x i, state-is x i, image-is x i)

pub wd16-step-locks : Wd16StepLocks
wd16-step-locks b m map w line b' m' e a k h =
    let i = wd16-step-is b m map w line b' m' e in
    let c = cant-fetch map (heard (settings_from w) line) (state_from b) m k refl h in
    (i.0 ∙ ap (λ (x : After). state_bytes (state_page x.state) (cause_number x.cause) (told_of (cause_address x.cause))) c, i.1 ∙ ap (λ (x : After). x.image) c)

pub step-not-7 : StepNot7
step-not-7 settings m map line s r m' p e d h =
    let a = step_of map (heard settings line) s m in
    cause-not-7 a.cause (sym (cause-is a (step_is settings m map line s r m' p e d)) ∙ h)

pub run-not-7 : RunNot7
run-not-7 settings map lines s m k h = cause-not-7 (cause_at (trail_of settings map lines s m) k) h
