use mathlib.Core.Path.{sym, ◌∙◌}
use Rattle.machine_c.proofs.Laws.{ended-bad, ended-done, ended-refused}
use Rattle.machine_c.proofs.wd16_run.Goals as goal

pub returns-then-refused_run : goal.returns-then-refused_run
returns-then-refused_run c = rw c.from.ensures (ended-bad _ _ _ _ _ _ (sym c.refused_run.ensures ∙ c.if-refused_run.true))

pub returns-in-Ok : goal.returns-in-Ok
returns-in-Ok c = ended-done _ _ _ _ _ _ _ _ _ _ _ _ _ (sym c.refused_run.ensures ∙ c.if-refused_run.false) c.state_from.ensures c.settings_from.ensures c.run.ensures c.in-Ok.is c.put_state.ensures c.put_tally.ensures

pub returns-in-Err : goal.returns-in-Err
returns-in-Err c = ended-refused _ _ _ _ _ _ _ _ _ _ _ _ (sym c.refused_run.ensures ∙ c.if-refused_run.false) c.state_from.ensures c.settings_from.ensures c.run.ensures c.in-Err.is c.from-in-Err.ensures
