use borrow.Author.Tests.{lt-ltb, le-ltb}
use Rattle.formats5to6.specs.Format6.{format6}
use Rattle.formats5to6.proofs.format6.Goals as goal

pub returns-then-op-lt32768 : goal.returns-then-op-lt32768
unfolding format6
returns-then-op-lt32768 c = rw (lt-ltb _ _ c.if-op-lt32768.true) c.immediate.ensures

pub returns-then-op-lt35328 : goal.returns-then-op-lt35328
unfolding format6
returns-then-op-lt35328 c = rw (le-ltb _ _ c.if-op-lt32768.false, lt-ltb _ _ c.if-op-lt35328.true) c.single.ensures

pub returns : goal.returns
unfolding format6
returns c = rw (le-ltb _ _ c.if-op-lt32768.false, le-ltb _ _ c.if-op-lt35328.false) c.double.ensures
