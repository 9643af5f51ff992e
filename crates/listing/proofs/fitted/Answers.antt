use Rattle.board.specs.Work.{fitted}
use Rattle.listing.proofs.fitted.Goals as goal

pub returns : goal.returns
unfolding fitted
returns c = rw c.byte_at.ensures
