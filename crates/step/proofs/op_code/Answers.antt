use Rattle.board.proofs.Laws.Ended.{ended-well, ended-blank, taken_back}
use Rattle.step.specs.declared.Kind.TheVariants.{OpCode}
use Rattle.step.specs.Step.{work_of}
use Rattle.step.proofs.Laws.Bounds.{bounded-step}
use Rattle.step.proofs.Laws.Ends.{fresh-clear}
use Rattle.step.proofs.op_code.Goals as goal

pub op_work-requires : goal.op_work-requires
op_work-requires c = (fresh-clear c.requires c.clear.ensures).board

pub returns : goal.returns
unfolding work_of
returns c = let f = fresh-clear c.requires c.clear.ensures in
    record {
      done = λ e. ended-well f (bounded-step OpCode _ _) c.op_work.ensures e;
      lost = λ e. ended-blank f (bounded-step OpCode _ _) c.op_work.ensures e;
      back = λ e. taken_back f c.op_work.ensures e;
      board = c.op_work.ensures.board;
    }
