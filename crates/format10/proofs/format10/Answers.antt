use borrow.Author.Tests.{lt-ltb, le-ltb}
use Rattle.format10.specs.Format10.{format10}
use Rattle.format10.proofs.format10.Goals as goal

pub returns-then-op-lt49152 : goal.returns-then-op-lt49152
unfolding format10
returns-then-op-lt49152 c = rw (lt-ltb _ _ c.if-op-lt49152.true)
    (record { got = c.on_words.ensures.got; board = c.on_words.ensures.board })

pub returns : goal.returns
unfolding format10
returns c = rw (le-ltb _ _ c.if-op-lt49152.false)
    (record { got = c.on_bytes.ensures.got; board = c.on_bytes.ensures.board })
