use mathlib.Core.Path.{sym, ◌∙◌}
use Rattle.board.specs.Work.{word}
use Rattle.board.proofs.Laws.{got_read, got-unread}
use Rattle.board.proofs.load.Goals as goal

pub returns-then-fitted : goal.returns-then-fitted
returns-then-fitted c = record { got = got_read word _ (sym c.fitted.ensures ∙ c.if-fitted.true) c.word_at.ensures }

pub returns-else-fitted : goal.returns-else-fitted
returns-else-fitted c = record { got = got-unread word _ (sym c.fitted.ensures ∙ c.if-fitted.false) }
