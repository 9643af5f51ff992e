use mathlib.Core.Path.{sym, ◌∙◌}
use Rattle.machine_c.proofs.Laws.{same-bad, same-done, same-refused}
use Rattle.machine_c.proofs.runs.wd16_run_same.Goals as goal

pub returns-then-refused_run : goal.returns-then-refused_run
returns-then-refused_run c = rw c.from.ensures (same-bad _ _ _ _ _ _ _ (sym c.refused_run.ensures ∙ c.if-refused_run.true))

pub returns-in-Ok : goal.returns-in-Ok
returns-in-Ok c = same-done _ _ _ _ _ _ _ _ _ _ _ _ _ _ (sym c.refused_run.ensures ∙ c.if-refused_run.false) c.state_from.ensures c.settings_from.ensures c.run_same.ensures c.in-Ok.is c.put_state.ensures c.put_tally.ensures

pub returns-in-Err : goal.returns-in-Err
returns-in-Err c = same-refused _ _ _ _ _ _ _ _ _ _ _ _ _ (sym c.refused_run.ensures ∙ c.if-refused_run.false) c.state_from.ensures c.settings_from.ensures c.run_same.ensures c.in-Err.is c.from-in-Err.ensures
