use mathlib.Core.Path.{sym, ◌∙◌}
use Rattle.board.specs.Exec.{log_room}
use Rattle.board.proofs.may_write.Goals as goal

pub returns-then-writable : goal.returns-then-writable
unfolding log_room
returns-then-writable c = rw (sym c.writable.ensures ∙ c.if-writable.true)

pub returns-else-writable : goal.returns-else-writable
unfolding log_room
returns-else-writable c = rw (sym c.writable.ensures ∙ c.if-writable.false) c.if-writable.false
