use native.Mathlib.Omega.{arith}
use mathlib.Core.Path.{refl, sym, ap, ◌∙◌}
use lib.ListN.{length}
use Rattle.board.specs.Work.{word}
use Rattle.board.specs.Exec.{undone}
use Rattle.board.proofs.Laws.{size-put}
use Rattle.board.proofs.Laws.Undo.{back_more, back_none}
use Rattle.board.proofs.rollback.Goals as goal

pub loop-n-init : goal.loop-n-init
unfolding undone
loop-n-init c = (omega arith, (c.requires.0, refl))

pub loop-n-preserved : goal.loop-n-preserved
loop-n-preserved c = (omega arith, (ap length c.put_word.ensures ∙ size-put word _ _ _ ∙ c.loop-n.invariant.1.0, rw c.put_word.ensures (back_more _ _ _ c.loop-n-test.true ∙ c.loop-n.invariant.1.1)))

pub returns : goal.returns
returns c = (sym (back_none _ _ _ c.loop-n-test.false) ∙ c.loop-n.invariant.1.1, c.clear.ensures)
