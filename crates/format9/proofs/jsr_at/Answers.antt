use Rattle.board.proofs.Laws.{did-then, did-fail, did-give}
use Rattle.format9.specs.Format9.{jsr_at}
use Rattle.format9.proofs.jsr_at.Goals as goal

pub returns-in_err-t : goal.returns-in_err-t
unfolding jsr_at
returns-in_err-t c = did-fail _ c.push_reg.ensures c.in_err-t.was c.from_residual.ensures.1

pub returns : goal.returns
unfolding jsr_at
returns c = did-then _ c.push_reg.ensures c.in_ok-t.was (rw (c.with_pc.ensures, c.with_reg.ensures) (did-give c.push_reg.ensures.board))
