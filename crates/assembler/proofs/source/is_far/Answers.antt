use mathlib.Core.Path.{refl}
use borrow.Author.Tests.{eq-eqb, ne_eqb}
use Rattle.assembler.specs.Source.{is_far}
use Rattle.assembler.proofs.source.is_far.Goals as goal

pub returns-then-u-eq0 : goal.returns-then-u-eq0
unfolding is_far
returns-then-u-eq0 c = rw (eq-eqb _ 0 c.if-u-eq0.true) refl

pub returns : goal.returns
unfolding is_far
returns c = rw (ne_eqb _ 0 c.if-u-eq0.false, c.reach.ensures, c.value.ensures) refl
