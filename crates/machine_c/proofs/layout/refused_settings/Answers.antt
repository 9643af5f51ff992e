use borrow.Author.Tests.{eq-eqb, ne_eqb}
use Rattle.machine_c.specs.Layout.{refused_settings}
use Rattle.machine_c.proofs.layout.refused_settings.Goals as goal

pub returns-then-w-ne4 : goal.returns-then-w-ne4
unfolding refused_settings
returns-then-w-ne4 c = simp (ne_eqb _ _ c.if-w-ne4.true)

pub returns : goal.returns
unfolding refused_settings
returns c = simp (eq-eqb _ _ c.if-w-ne4.false, c.byte_at.ensures)
