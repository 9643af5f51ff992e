use mathlib.Core.Path.{sym, ◌∙◌}
use Rattle.machine_c.specs.Layout.{refused_step}
use Rattle.machine_c.proofs.layout.refused_step.Goals as goal

pub returns-then-refused_state : goal.returns-then-refused_state
unfolding refused_step
returns-then-refused_state c = simp (sym c.refused_state.ensures ∙ c.if-refused_state.true)

pub returns : goal.returns
unfolding refused_step
returns c = simp (sym c.refused_state.ensures ∙ c.if-refused_state.false, c.refused_settings.ensures)
