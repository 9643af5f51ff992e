use mathlib.Core.Path.{◌∙◌}
use Rattle.board.proofs.Laws.Ended.{ended-well, ended-blank, taken_back}
use Rattle.step.proofs.Laws.Bounds.{bounded-error}
use Rattle.step.proofs.Laws.Ends.{fresh-back, error-well, error-ill}
use Rattle.step.proofs.Laws.Written.{wrote-fresh, emptied, error-writes-well, error-writes-ill}
use Rattle.step.proofs.logged.dropped.Goals as goal

pub bus_error-requires : goal.bus_error-requires
bus_error-requires c = (fresh-back c.requires c.rollback.ensures.0 c.rollback.ensures.1).board

pub returns-in-Ok : goal.returns-in-Ok
returns-in-Ok c = let f = fresh-back c.requires c.rollback.ensures.0 c.rollback.ensures.1 in
    let e = ended-well f (bounded-error _ _ _) c.bus_error.ensures c.in-Ok.is in
    record {
      turn = error-well _ _ _ _ _ c.rollback.ensures.0 e c.error_cause_of.ensures;
      wrote = error-writes-well _ _ _ _ _ _ _ c.rollback.ensures.0 e (wrote-fresh f c.bus_error.ensures c.in-Ok.is);
      board = c.bus_error.ensures.board;
    }

pub returns : goal.returns
returns c = let f = fresh-back c.requires c.rollback.ensures.0 c.rollback.ensures.1 in
    let e = ended-blank f (bounded-error _ _ _) c.bus_error.ensures c.in_default.is in
    record {
      turn = error-ill _ _ _ _ c.rollback.ensures.0 (c.rollback-2.ensures.0 ∙ taken_back f c.bus_error.ensures c.in_default.is) e c.with_mode.ensures;
      wrote = error-writes-ill _ _ _ _ _ _ _ c.rollback.ensures.0 e (emptied c.bus_error.ensures.board c.rollback-2.ensures.1);
      board = (fresh-back c.bus_error.ensures.board c.rollback-2.ensures.0 c.rollback-2.ensures.1).board;
    }
