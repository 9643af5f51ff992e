use Rattle.board.specs.Exec.{note}
use Rattle.board.proofs.note.Goals as goal

pub returns : goal.returns
unfolding note
returns c = rw c.word_at.ensures
