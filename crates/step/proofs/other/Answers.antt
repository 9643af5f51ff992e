use Rattle.board.proofs.Laws.Ended.{ended-well, ended-blank, taken_back}
use Rattle.step.proofs.Laws.Bounds.{bounded-step}
use Rattle.step.proofs.Laws.Ends.{fresh-clear, step-well, step-ill}
use Rattle.step.proofs.other.Goals as goal

pub seldom-requires : goal.seldom-requires
seldom-requires c = ((fresh-clear c.requires.0 c.clear.ensures).board, c.requires.2)

pub returns-in-Ok : goal.returns-in-Ok
returns-in-Ok c = record {
  turn = step-well _ _ _ _ c.requires.1 (ended-well (fresh-clear c.requires.0 c.clear.ensures) (bounded-step _ _ _) c.seldom.ensures c.in-Ok.is) c.cause_of.ensures;
  board = c.seldom.ensures.board;
}

pub returns-in-Err : goal.returns-in-Err
returns-in-Err c = let f = fresh-clear c.requires.0 c.clear.ensures in
    record {
      turn = step-ill _ _ _ _ c.requires.1 (ended-blank f (bounded-step _ _ _) c.seldom.ensures c.in-Err.is) (taken_back f c.seldom.ensures c.in-Err.is) c.error.ensures.turn;
      board = c.error.ensures.board;
    }
