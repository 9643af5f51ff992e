use native.Mathlib.Omega.{arith}
use Rattle.stepline.proofs.Laws.{columns-length, line-is}
use Rattle.stepline.proofs.write_on.Goals as goal

pub columns_at-after-requires : goal.columns_at-after-requires
columns_at-after-requires c = omega (arith, c.tab_at-begun.auto.text, c.tab_at-begun.ensures.count, c.put_code-code.auto.text, c.put_code-code.ensures.1, c.requires.0)

pub writes_at-n-requires : goal.writes_at-n-requires
writes_at-n-requires c = (
  omega (arith, c.columns_at-after.auto.text, c.columns_at-after.ensures.count, columns-length c.figures.result 15, c.tab_at-begun.auto.text, c.tab_at-begun.ensures.count, c.put_code-code.auto.text, c.put_code-code.ensures.1, c.requires.0),
  c.step-turn.ensures.board.whole,
  c.step-turn.ensures.board.few,
)

pub returns : goal.returns
returns c = let a = c.args in
    line-is a.settings a.image.now a.map.now a.line a.number a.s a.text.now c.step-turn.result _ _ _ _ _ _ _ _ _ _ _ _ _ _
    c.hear-out.ensures c.kind_of.ensures c.is_code.ensures c.step-turn.ensures.turn c.step-turn.ensures.wrote c.figures.ensures
    c.put_code-code.ensures.0 c.tab_at-begun.ensures c.columns_at-after.ensures c.writes_at-n.ensures
