use borrow.Author.Tests.{eq-eqb, ne_eqb}
use Rattle.format9.specs.Format9.{sob}
use Rattle.format9.proofs.sob.Goals as goal

pub returns-then-v-eq0 : goal.returns-then-v-eq0
unfolding sob
returns-then-v-eq0 c = rw (← c.register-k.ensures, ← c.offset-n.ensures)
    (rw (← c.reg.ensures, ← c.minus-v.ensures, eq-eqb _ _ c.if-v-eq0.true) c.with_reg-t.ensures)

pub returns : goal.returns
unfolding sob
returns c = rw (← c.register-k.ensures, ← c.offset-n.ensures)
    (rw (← c.reg.ensures, ← c.minus-v.ensures, ne_eqb _ _ c.if-v-eq0.false, ← c.with_reg-t.ensures, ← c.minus.ensures) c.with_pc.ensures)
