use mathlib.Core.Path.{sym, ◌∙◌}
use Rattle.machine_c.proofs.Laws.{up-bad, up_done, up-refused}
use Rattle.machine_c.proofs.wd16_power_up.Goals as goal

pub returns-then-refused_up : goal.returns-then-refused_up
returns-then-refused_up c = rw c.from.ensures (up-bad _ _ _ _ (sym c.refused_up.ensures ∙ c.if-refused_up.true))

pub returns-in-Ok : goal.returns-in-Ok
returns-in-Ok c = up_done _ _ _ _ _ _ _ _ _ (sym c.refused_up.ensures ∙ c.if-refused_up.false) c.settings_from.ensures c.power_up.ensures c.in-Ok.is c.put_state.ensures

pub returns-in-Err : goal.returns-in-Err
returns-in-Err c = up-refused _ _ _ _ _ _ _ _ _ (sym c.refused_up.ensures ∙ c.if-refused_up.false) c.settings_from.ensures c.power_up.ensures c.in-Err.is c.from-in-Err.ensures
