use Rattle.stepline.specs.Shown.{figures}
use Rattle.stepline.proofs.figures.Goals as goal

pub returns : goal.returns
unfolding figures
returns c = rw (c.changed.ensures, c.changed-2.ensures, c.changed-3.ensures, c.changed-4.ensures, c.changed-5.ensures, c.changed-6.ensures, c.changed-7.ensures, c.changed-8.ensures, c.changed-9.ensures, c.status.ensures, c.status-2.ensures, c.changed-10.ensures, c.mode.ensures, c.mode-2.ensures, c.number_of.ensures, c.told.ensures, c.address_of.ensures, c.page_told.ensures, c.address_of-2.ensures)
