use mathlib.Core.Path.{refl}
use borrow.Author.Tests.{eq-eqb, ne_eqb}
use Rattle.assembler.specs.Source.{is_given}
use Rattle.assembler.proofs.source.is_given.Goals as goal

pub returns-then-u-eq0 : goal.returns-then-u-eq0
unfolding is_given
returns-then-u-eq0 c = rw (eq-eqb _ 0 c.if-u-eq0.true) refl

pub returns : goal.returns
unfolding is_given
returns c = rw (ne_eqb _ 0 c.if-u-eq0.false, c.giver.ensures.0) refl
