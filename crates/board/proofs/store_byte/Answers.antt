use mathlib.Core.Path.{sym, ◌∙◌}
use Rattle.board.specs.Work.{byte}
use Rattle.board.proofs.Laws.{got-written, got-lost, did, and_right, room-few}
use Rattle.board.specs.Work.{with_byte, writable}
use Rattle.board.proofs.store_byte.Goals as goal

pub note-requires : goal.note-requires
note-requires c = (c.requires.lent.size, room-few c.args.log.now (and_right (writable c.args.map.now c.args.a) _ (sym c.may_write.ensures ∙ c.if-may_write.true)))

pub returns-then-may_write : goal.returns-then-may_write
unfolding with_byte
returns-then-may_write c = did c.requires (got-written byte _ _ (sym c.may_write.ensures ∙ c.if-may_write.true) (rw (c.low.ensures, c.note.ensures)))

pub returns-else-may_write : goal.returns-else-may_write
returns-else-may_write c = did c.requires (got-lost byte _ (sym c.may_write.ensures ∙ c.if-may_write.false))
