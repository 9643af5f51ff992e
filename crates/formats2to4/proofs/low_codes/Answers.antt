use mathlib.Core.Path.{sym, ◌∙◌}
use Rattle.board.proofs.Laws.{did-saw}
use borrow.Author.Tests.{lt-ltb, le-ltb}
use Rattle.formats2to4.specs.Low.{low_codes}
use Rattle.formats2to4.proofs.Laws.Low.{low-rtn}
use Rattle.formats2to4.proofs.low_codes.Goals as goal

pub returns-then-op-lt16 : goal.returns-then-op-lt16
unfolding low_codes
returns-then-op-lt16 c = rw (lt-ltb _ _ c.if-op-lt16.true) c.format1.ensures

pub returns-then-format2_code-eq3 : goal.returns-then-format2_code-eq3
returns-then-format2_code-eq3 c = rw (low-rtn _ _ c.args.op (sym c.format2_code.ensures ∙ c.if-format2_code-eq3.true), ← c.only_register.ensures) (did-saw c.requires c.rtn.ensures)

pub returns : goal.returns
unfolding low_codes
returns c = rw (le-ltb _ _ c.if-op-lt16.false) c.seldom.ensures
