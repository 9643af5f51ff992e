use Rattle.board.proofs.Laws.{did-then, did-fail, did-saw}
use Rattle.formats2to4.specs.Format4.{svca}
use Rattle.formats2to4.proofs.format4.svca.Goals as goal

pub returns-in_err-t : goal.returns-in_err-t
unfolding svca
returns-in_err-t c = did-fail _ (rw c.ps.ensures at c.push_both.ensures) c.in_err-t.was c.from_residual.ensures.1

pub returns-in_err-table : goal.returns-in_err-table
unfolding svca
returns-in_err-table c = did-then _ (rw c.ps.ensures at c.push_both.ensures) c.in_ok-t.was
    (did-fail _ (did-saw c.push_both.ensures.board c.load.ensures) c.in_err-table.was c.from_residual-in_err-table.ensures.1)

pub returns : goal.returns
unfolding svca
returns c = did-then _ (rw c.ps.ensures at c.push_both.ensures) c.in_ok-t.was
    (did-then _ (did-saw c.push_both.ensures.board c.load.ensures) c.in_ok-table.was
    (did-saw c.push_both.ensures.board (rw (c.plus-2.ensures, c.plus.ensures) at c.tabled.ensures)))
