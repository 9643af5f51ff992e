use Rattle.board.proofs.Laws.{did-give}
use borrow.Author.Tests.{lt-ltb, le-ltb}
use Rattle.formats2to4.specs.Low.{formats2to4}
use Rattle.formats2to4.proofs.formats_2_to_4.Goals as goal

pub returns-then-op-lt48 : goal.returns-then-op-lt48
unfolding formats2to4
returns-then-op-lt48 c = rw (lt-ltb _ _ c.if-op-lt48.true) c.format2.ensures

pub returns-then-op-lt64 : goal.returns-then-op-lt64
unfolding formats2to4
returns-then-op-lt64 c = rw (le-ltb _ _ c.if-op-lt48.false, lt-ltb _ _ c.if-op-lt64.true, c.lcc.ensures) (did-give c.requires)

pub returns : goal.returns
unfolding formats2to4
returns c = rw (le-ltb _ _ c.if-op-lt48.false, le-ltb _ _ c.if-op-lt64.false) c.format4.ensures
