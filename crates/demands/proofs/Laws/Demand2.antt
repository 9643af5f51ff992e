-- The theorems that specs/Demand2.antt states.
use mathlib.Core.Bool.{cond}
use mathlib.Core.Path.{sym, ap, ◌∙◌}
use Rattle.state.specs.State.{heard}
use Rattle.step.specs.declared.Cause.TheVariants as Cause
use Rattle.step.specs.Step.{after, step_of, power_up_of}
use Rattle.refusal.specs.Numbers.{no_state}
use Rattle.refusal.specs.Page.{left, call, reading}
use Rattle.machine.specs.Numbers.{state_page, turn_page, ran_page}
use Rattle.machine.specs.Run.{End}
use Rattle.machine.specs.Trail.{trail_of, last_after, tally_in}
use Rattle.machine.specs.Entry.{power_why, step_why, run_why, power_up_page, step_page, run_end, run_page}
use Rattle.machine.proofs.Laws.Counted.{run-trail, trail-length, trail-at}
use Rattle.machine.proofs.Laws.Answered.{power-answer, step-answer, run-answer}
use Rattle.machine_c.specs.Layout.{state_from, settings_from, refused_up, refused_step, refused_run}
use Rattle.machine_c.specs.Calls.{up_in, step_in, run_laid, power_up_call, step_call, run_call}
use Rattle.optext.proofs.Laws.Calls as Calls
use Rattle.optext_c.proofs.Laws.Trip as Trip
use Rattle.demands.proofs.Laws.Took.{took}
use Rattle.demands.specs.Demand2.{PowerUpIs, StepIs, RunIs, TrailIs, Wd16PowerUpIs, Wd16StepIs, Wd16RunIs, TextAgain, Wd16TextAgain, TextMade, Wd16TextMade, TextIgnores, Wd16TextIgnores}

pub power-up-is : PowerUpIs
power-up-is settings m map r m' p e d = (power-answer settings m map (ap (λ z. left z m') (sym d) ∙ e)).1

pub step_is : StepIs
step_is settings m map line s r m' p e d = (step-answer settings m map line s (ap (λ z. left z m') (sym d) ∙ e)).1

pub run_is : RunIs
run_is settings m map lines s r m' p e d = (run-answer settings m map lines s (ap (λ z. left z m') (sym d) ∙ e)).1

pub trail_is : TrailIs
trail_is settings map lines s m = (trail-length settings map lines s m, λ k h d. trail-at settings map lines s m Cause.Nothing d k h)

pub wd16-power-up-is : Wd16PowerUpIs
unfolding power_up_call power_up_page
wd16-power-up-is b m map w b' m' e =
    let u = power_up_of (settings_from w) map m in
    let h = took up_in (λ k. (b, k)) m (cond (refused_up b w) no_state 0) (power_why (settings_from w) m map) (state_page u.state) u.image e in
    (ap (λ z. z.0) h, ap (λ z. z.1) h)

pub wd16-step-is : Wd16StepIs
unfolding step_call step_page
wd16-step-is b m map w line b' m' e =
    let x = step_of map (heard (settings_from w) line) (state_from b) m in
    let h = took step_in (λ k. (b, k)) m (cond (refused_step b w) no_state 0) (step_why (settings_from w) m map line) (turn_page (record { state = x.state; cause = x.cause })) x.image e in
    (ap (λ z. z.0) h, ap (λ z. z.1) h)

pub wd16-run-is : Wd16RunIs
unfolding run_call run_page
wd16-run-is b t m map w lines b' t' m' e =
    let rs = trail_of (settings_from w) map lines (state_from b) m in
    let x = last_after (after (state_from b) m Cause.Nothing) rs in
    let bad = cond (refused_run b t w) no_state 0 in
    let why = run_why (settings_from w) m map lines in
    let same = ap (λ (y : End). reading run_laid (λ k. (b, t, k)) (call bad (call why (run_end y) m) m)) (run-trail (settings_from w) map lines (state_from b) m Cause.Nothing) in
    let h = took run_laid (λ k. (b, t, k)) m bad why (ran_page (record { state = x.state; tally = tally_in rs })) x.image (e ∙ same) in
    (ap (λ z. z.0) h, ap (λ z. z.1) h, ap (λ z. z.2) h)

pub text-again : TextAgain
text-again = Calls.text-again

pub wd16-text-again : Wd16TextAgain
wd16-text-again = Trip.text-again

pub text-made : TextMade
text-made = Calls.text-made

pub wd16-text-made : Wd16TextMade
wd16-text-made = Trip.text-made

pub text-ignores : TextIgnores
text-ignores = Calls.text-ignores

pub wd16-text-ignores : Wd16TextIgnores
wd16-text-ignores = Trip.text-ignores
