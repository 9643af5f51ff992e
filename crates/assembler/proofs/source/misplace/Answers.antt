use mathlib.Core.Path.{refl, ap, sym, ◌∙◌}
use borrow.Author.Tests.{lt-ltb, le-ltb}
use Rattle.assembler.specs.Source.{is_odd, misplaced}
use Rattle.assembler.proofs.source.misplace.Goals as goal

pub returns-then-is_odd : goal.returns-then-is_odd
unfolding misplaced
returns-then-is_odd c = rw (ap is_odd (sym c.said_at.ensures.0) ∙ sym c.is_odd.ensures ∙ c.if-is_odd.true) refl

pub returns-then-ends-i-gt65536 : goal.returns-then-ends-i-gt65536
unfolding misplaced
returns-then-ends-i-gt65536 c = rw (ap is_odd (sym c.said_at.ensures.0) ∙ sym c.is_odd.ensures ∙ c.if-is_odd.false, lt-ltb 65536 _ (rw (c.requires.1.at c.args.i c.requires.2) at c.if-ends-i-gt65536.true)) refl

pub returns : goal.returns
unfolding misplaced
returns c = rw (ap is_odd (sym c.said_at.ensures.0) ∙ sym c.is_odd.ensures ∙ c.if-is_odd.false, le-ltb 65536 _ (rw (c.requires.1.at c.args.i c.requires.2) at c.if-ends-i-gt65536.false), c.overlapped.ensures) refl
