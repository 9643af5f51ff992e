use mathlib.Core.Path.{sym, ◌∙◌}
use borrow.Author.Tests.{lt-ltb, le-ltb}
use Rattle.format7.proofs.Laws.Columns.{columns}
use Rattle.format7.proofs.format7.Goals as goal

pub returns-then-on_word : goal.returns-then-on_word
returns-then-on_word c = rw (columns _ _ _, ← c.row_of-row.ensures, sym c.on_word.ensures ∙ c.if-on_word.true)
    c.modify_word.ensures

pub returns-then-row-lt12 : goal.returns-then-row-lt12
returns-then-row-lt12 c = rw (columns _ _ _, ← c.row_of-row.ensures, sym c.on_word.ensures ∙ c.if-on_word.false, lt-ltb _ _ c.if-row-lt12.true)
    c.modify_byte.ensures

pub returns : goal.returns
returns c = rw (columns _ _ _, ← c.row_of-row.ensures, sym c.on_word.ensures ∙ c.if-on_word.false, le-ltb _ _ c.if-row-lt12.false)
    c.seldom.ensures
