use mathlib.Core.Path.{sym, ◌∙◌}
use Rattle.machine_c.specs.Layout.{refused_state}
use Rattle.machine_c.proofs.layout.refused_state.Goals as goal

pub returns-then-not_state : goal.returns-then-not_state
unfolding refused_state
returns-then-not_state c = simp (sym c.not_state.ensures ∙ c.if-not_state.true)

pub returns : goal.returns
unfolding refused_state
returns c = simp (sym c.not_state.ensures ∙ c.if-not_state.false, c.over.ensures)
