use borrow.Author.Tests.{eq-eqb, ne_eqb, lt-ltb, le-ltb}
use Rattle.board.proofs.Laws.{did-saw}
use Rattle.format7.specs.Rows.{no_result_at}
use Rattle.format7.proofs.no_result.Goals as goal

pub returns-then-op-ge32768 : goal.returns-then-op-ge32768
unfolding no_result_at
returns-then-op-ge32768 c = rw (le-ltb _ _ c.if-op-ge32768.true) c.status_code.ensures

pub returns-then-row-eq14 : goal.returns-then-row-eq14
unfolding no_result_at
returns-then-row-eq14 c = rw (lt-ltb _ _ c.if-op-ge32768.false, eq-eqb _ _ c.if-row-eq14.true) c.tcall.ensures

pub returns : goal.returns
unfolding no_result_at
returns c = rw (lt-ltb _ _ c.if-op-ge32768.false, ne_eqb _ _ c.if-row-eq14.false) (did-saw c.requires c.tjmp.ensures)
