use Rattle.listing.specs.Listing.{all_stand}
use Rattle.listing.proofs.all_stand.Goals as goal

pub returns : goal.returns
unfolding all_stand
returns c = rw (c.stands.ensures, c.stands-2.ensures, c.stands-3.ensures)
