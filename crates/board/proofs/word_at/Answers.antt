use Rattle.board.specs.Work.{image_word, even}
use Rattle.board.proofs.word_at.Goals as goal

pub returns : goal.returns
unfolding image_word even
returns c = rw (c.wide.ensures.0, c.wide-2.ensures.0)
