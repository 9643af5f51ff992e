use mathlib.Core.Path.{◌∙◌}
use Rattle.board.proofs.Laws.Ended.{ended-well, ended-blank, taken_back}
use Rattle.step.proofs.Laws.Bounds.{bounded-step}
use Rattle.step.proofs.Laws.Ends.{fresh-none, fresh-back, powered, unpowered, option-no-code}
use Rattle.step.proofs.power.Goals as goal

pub seldom-requires : goal.seldom-requires
seldom-requires c = ((fresh-none c.requires).board, option-no-code _ c.power_up_option-k.ensures)

pub returns-in-Ok : goal.returns-in-Ok
returns-in-Ok c = record {
  came = powered _ _ _ c.cleared-s.ensures c.hear-out.ensures c.power_up_option-k.ensures
      (ended-well (fresh-none c.requires) (bounded-step _ _ _) c.seldom.ensures c.in-Ok.is);
  lent = c.seldom.ensures.board.lent;
}

pub rollback-requires : goal.rollback-requires
rollback-requires c = (c.seldom.ensures.board.lent.size, c.seldom.ensures.board.few)

pub returns : goal.returns
returns c = record {
  came = unpowered _ _ _ c.cleared-s.ensures c.hear-out.ensures c.power_up_option-k.ensures
      (ended-blank (fresh-none c.requires) (bounded-step _ _ _) c.seldom.ensures c.in_default.is)
      (c.rollback.ensures.0 ∙ taken_back (fresh-none c.requires) c.seldom.ensures c.in_default.is)
      c.with_mode.ensures;
  lent = (fresh-back c.seldom.ensures.board c.rollback.ensures.0 c.rollback.ensures.1).board.lent;
}
