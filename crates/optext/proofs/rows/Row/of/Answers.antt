use Rattle.std.proofs.Common.{sym, ◌∙◌}
use Rattle.optext.proofs.Laws.Reserved.{row_word, row-found}
use Rattle.optext.proofs.rows.Row.of.Goals as goal

pub returns-then-is_reserved : goal.returns-then-is_reserved
returns-then-is_reserved c = sym (row_word _ (sym c.is_reserved.ensures ∙ c.if-is_reserved.true))

pub returns : goal.returns
returns c = c.made.ensures ∙ sym (row-found _ (sym c.is_reserved.ensures ∙ c.if-is_reserved.false))
