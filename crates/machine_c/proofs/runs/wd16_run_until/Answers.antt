use mathlib.Core.Path.{sym, ◌∙◌}
use Rattle.machine_c.proofs.Laws.{until-bad, until-done, until-refused}
use Rattle.machine_c.proofs.runs.wd16_run_until.Goals as goal

pub returns-then-refused_until : goal.returns-then-refused_until
returns-then-refused_until c = rw c.from.ensures (until-bad _ _ _ _ _ _ _ (sym c.refused_until.ensures ∙ c.if-refused_until.true))

pub returns-in-Ok : goal.returns-in-Ok
returns-in-Ok c = until-done _ _ _ _ _ _ _ _ _ _ _ _ _ c.in-Ok.stop _ _ _ (sym c.refused_until.ensures ∙ c.if-refused_until.false) c.state_from.ensures c.settings_from.ensures c.until_from.ensures c.run_until.ensures c.in-Ok.is c.cause_number.ensures c.address_of.ensures c.put_state.ensures c.put_stop.ensures

pub returns-in-Err : goal.returns-in-Err
returns-in-Err c = until-refused _ _ _ _ _ _ _ _ _ _ _ _ _ _ (sym c.refused_until.ensures ∙ c.if-refused_until.false) c.state_from.ensures c.settings_from.ensures c.until_from.ensures c.run_until.ensures c.in-Err.is c.from-in-Err.ensures
