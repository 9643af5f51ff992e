use mathlib.Core.Path.{sym, ◌∙◌}
use Rattle.machine_c.proofs.Laws.{went-bad, went-done, went-refused}
use Rattle.machine_c.proofs.wd16_step.Goals as goal

pub returns-then-refused_step : goal.returns-then-refused_step
returns-then-refused_step c = rw c.from.ensures (went-bad _ _ _ _ _ (sym c.refused_step.ensures ∙ c.if-refused_step.true))

pub returns-in-Ok : goal.returns-in-Ok
returns-in-Ok c = went-done _ _ _ _ _ _ _ _ _ _ _ _ _ (sym c.refused_step.ensures ∙ c.if-refused_step.false) c.state_from.ensures c.settings_from.ensures c.step.ensures c.in-Ok.is c.cause_number.ensures c.address_of.ensures c.put_state.ensures

pub returns-in-Err : goal.returns-in-Err
returns-in-Err c = went-refused _ _ _ _ _ _ _ _ _ _ _ (sym c.refused_step.ensures ∙ c.if-refused_step.false) c.state_from.ensures c.settings_from.ensures c.step.ensures c.in-Err.is c.from-in-Err.ensures
