use mathlib.Core.Bool.{Bool, true, false, ◌&&◌, true≢false}
use mathlib.Core.Path.{◌≡◌, refl, sym, ap, ◌∙◌}
use Rattle.step.specs.Step.{is_code}
use Rattle.step.proofs.Laws.Ends.{calm_code}
use Rattle.step.proofs.goes_on.Goals as goal

both : (a b : Bool) → a && b ≡ true → (a ≡ true) × (b ≡ true)
both true b e = (refl, e)
both false b e = absurd (true≢false (sym e))

pub returns-then-quiet-running : goal.returns-then-quiet-running
returns-then-quiet-running c = let e = both _ _ c.if-quiet-running.true in
    sym (calm_code c.args.s c.args.out (sym c.requires ∙ e.0) ∙ sym c.running.ensures ∙ e.1)

pub returns : goal.returns
returns c = c.is_code.ensures ∙ ap is_code c.kind_of.ensures
