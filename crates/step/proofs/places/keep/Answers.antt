use Rattle.step.specs.Places.{keep}
use Rattle.step.proofs.places.keep.Goals as goal

pub returns : goal.returns
unfolding keep
returns c = rw (c.reg.ensures, c.plus.ensures) at c.store.ensures
