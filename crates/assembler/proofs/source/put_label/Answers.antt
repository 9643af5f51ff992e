use mathlib.Core.Path.{refl, ◌∙◌}
use borrow.Author.Tests.{eq-eqb, ne_eqb}
use Rattle.assembler.specs.Source.{with_labels}
use Rattle.assembler.proofs.source.put_label.Goals as goal

pub returns-then-u-eq0 : goal.returns-then-u-eq0
unfolding with_labels
returns-then-u-eq0 c = rw (eq-eqb _ 0 c.if-u-eq0.true) refl

pub returns : goal.returns
unfolding with_labels
returns c = rw (ne_eqb _ 0 c.if-u-eq0.false) (c.with_label.ensures ∙ rw c.value.ensures refl)
