use Rattle.board.proofs.Laws.{did-then, did-fail}
use Rattle.format1.specs.Format1.{push_three}
use Rattle.format1.proofs.push_three.Goals as goal

pub returns-in_err-t : goal.returns-in_err-t
unfolding push_three
returns-in_err-t c = did-fail _ c.push_reg.ensures c.in_err-t.was c.from_residual.ensures.1

pub returns-in_err-u : goal.returns-in_err-u
unfolding push_three
returns-in_err-u c = did-then _ c.push_reg.ensures c.in_ok-t.was (did-fail _ c.push_reg-2.ensures c.in_err-u.was c.from_residual-in_err-u.ensures.1)

pub returns : goal.returns
unfolding push_three
returns c = did-then _ c.push_reg.ensures c.in_ok-t.was (did-then _ c.push_reg-2.ensures c.in_ok-u.was c.push_reg-3.ensures)
