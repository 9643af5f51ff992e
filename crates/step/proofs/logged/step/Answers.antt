use Rattle.board.proofs.Laws.Ended.{ended-well, ended-blank, taken_back}
use Rattle.step.proofs.Laws.Bounds.{bounded-step}
use Rattle.step.proofs.Laws.Ends.{fresh-clear, step-well, step-ill}
use Rattle.step.proofs.Laws.Written.{wrote-fresh, writes-well, writes-ill}
use Rattle.step.proofs.logged.step.Goals as goal

pub work-requires : goal.work-requires
work-requires c = (fresh-clear c.requires c.clear.ensures).board

pub returns-in-Ok : goal.returns-in-Ok
returns-in-Ok c = let f = fresh-clear c.requires c.clear.ensures in
    let e = ended-well f (bounded-step _ _ _) c.work.ensures c.in-Ok.is in
    record {
      turn = step-well _ _ _ _ c.kind_of-k.ensures e c.cause_of.ensures;
      wrote = writes-well _ _ _ _ _ _ c.kind_of-k.ensures e (wrote-fresh f c.work.ensures c.in-Ok.is);
      board = c.work.ensures.board;
    }

pub returns-in-Err : goal.returns-in-Err
returns-in-Err c = let f = fresh-clear c.requires c.clear.ensures in
    let e = ended-blank f (bounded-step _ _ _) c.work.ensures c.in-Err.is in
    let b = taken_back f c.work.ensures c.in-Err.is in
    record {
      turn = step-ill _ _ _ _ c.kind_of-k.ensures e b c.dropped.ensures.turn;
      wrote = writes-ill _ _ _ _ _ _ _ c.kind_of-k.ensures e b c.dropped.ensures.wrote;
      board = c.dropped.ensures.board;
    }
