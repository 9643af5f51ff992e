use mathlib.Core.Path.{refl}
use borrow.Author.Tests.{lt-ltb, le-ltb}
use Rattle.patchline.specs.Text.{is_name}
use Rattle.patchline.proofs.text.is_name.Goals as goal

pub returns-then-u-gt6 : goal.returns-then-u-gt6
unfolding is_name
returns-then-u-gt6 c = rw (lt-ltb 6 _ c.if-u-gt6.true) refl

pub returns-then-past-u : goal.returns-then-past-u
unfolding is_name
returns-then-past-u c = rw (le-ltb 6 _ c.if-u-gt6.false, ← c.past.ensures.0, lt-ltb _ _ c.if-past-u.true) refl

pub returns-then-past-u-2 : goal.returns-then-past-u-2
unfolding is_name
returns-then-past-u-2 c = rw (le-ltb 6 _ c.if-u-gt6.false, ← c.past.ensures.0, le-ltb _ _ c.if-past-u.false, ← c.past-2.ensures.0, lt-ltb _ _ c.if-past-u-2.true, c.is_register.ensures) refl

pub returns : goal.returns
unfolding is_name
returns c = rw (le-ltb 6 _ c.if-u-gt6.false, ← c.past.ensures.0, le-ltb _ _ c.if-past-u.false, ← c.past-2.ensures.0, le-ltb _ _ c.if-past-u-2.false) refl
