use mathlib.Core.Path.{refl, sym, ◌∙◌}
use Rattle.board.specs.Work.{byte}
use Rattle.board.proofs.Laws.{got_read, got-unread}
use Rattle.board.proofs.load_byte.Goals as goal

pub returns-then-fitted : goal.returns-then-fitted
returns-then-fitted c = record { got = got_read byte _ (sym c.fitted.ensures ∙ c.if-fitted.true) refl }

pub returns-else-fitted : goal.returns-else-fitted
returns-else-fitted c = record { got = got-unread byte _ (sym c.fitted.ensures ∙ c.if-fitted.false) }
