use Rattle.std.proofs.Common.{refl, eq-eqb, ne_eqb, le-leb}
use borrow.Author.Tests.{lt-leb}
use Rattle.optext.specs.Line.{is_reserved}
use Rattle.optext.proofs.rows.is_reserved.Goals as goal

pub returns-then-w-ge240 : goal.returns-then-w-ge240
unfolding is_reserved
returns-then-w-ge240 c = rw (le-leb _ _ c.if-w-ge240.true) refl

pub returns-then-w-eq28 : goal.returns-then-w-eq28
unfolding is_reserved
returns-then-w-eq28 c = rw (lt-leb _ _ c.if-w-ge240.false, eq-eqb _ _ c.if-w-eq28.true) refl

pub returns : goal.returns
unfolding is_reserved
returns c = rw (lt-leb _ _ c.if-w-ge240.false, ne_eqb _ _ c.if-w-eq28.false) refl
