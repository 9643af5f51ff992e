use mathlib.Core.Path.{◌∙◌}
use Rattle.board.proofs.Laws.{did-give}
use Rattle.format9.specs.Format9.{format9}
use Rattle.format9.proofs.format9.Goals as goal

pub returns-then-opc-eq3 : goal.returns-then-opc-eq3
unfolding format9
returns-then-opc-eq3 c = rw (← c.format9_code-opc.ensures, c.if-opc-eq3.true, c.sob.ensures) (did-give c.requires)

pub returns-then-opc-eq0 : goal.returns-then-opc-eq0
unfolding format9
returns-then-opc-eq0 c = rw (← c.format9_code-opc.ensures, c.if-opc-eq0.true)
    (rw (c.with_flags-t.ensures, c.preset.ensures) at c.jsr.ensures)

pub seldom-requires : goal.seldom-requires
seldom-requires c = let e = c.format9_code-opc.ensures in (c.requires, record { not-jsr = λ d. c.if-opc-eq0.false (e ∙ d); not-sob = λ d. c.if-opc-eq3.false (e ∙ d) })
