use Rattle.listing.specs.Listing.{line_of}
use Rattle.listing.proofs.Laws.{fits_whole}
use Rattle.listing.proofs.put_line.Goals as goal

pub put_whole-requires : goal.put_whole-requires
put_whole-requires c = let f = fits_whole _ _ _ c.requires.1 c.in-Whole.is in (c.requires.0, f.0, f.1)

pub returns-in-Nothing : goal.returns-in-Nothing
unfolding line_of
returns-in-Nothing c = rw c.in-Nothing.is c.put_nothing.ensures

pub returns-in-Cut : goal.returns-in-Cut
unfolding line_of
returns-in-Cut c = rw c.in-Cut.is c.put_cut.ensures

pub returns-in-Whole : goal.returns-in-Whole
unfolding line_of
returns-in-Whole c = rw c.in-Whole.is c.put_whole.ensures
