use mathlib.Core.Path.{sym, ◌∙◌}
use Rattle.board.proofs.Laws.{did-saw}
use Rattle.opcodes.proofs.Laws.Past.{at_least}
use Rattle.format9.specs.Format9.{format9}
use Rattle.format9.proofs.Laws.Format9.{format9-last}
use Rattle.format9.proofs.preset_code.Goals as goal

pub returns-in-1 : goal.returns-in-1
unfolding format9
returns-in-1 c = rw (← c.format9_code-opc.ensures)
    (rw c.in-1.is
    (rw (c.with_flags-t.ensures, c.preset.ensures) at c.lea.ensures))

pub returns-in-2 : goal.returns-in-2
unfolding format9
returns-in-2 c = rw (← c.format9_code-opc.ensures)
    (rw c.in-2.is
    (did-saw c.requires.0 (rw (c.with_flags-t.ensures, c.preset.ensures) at c.ash.ensures)))

pub returns-in-4 : goal.returns-in-4
unfolding format9
returns-in-4 c = rw (← c.format9_code-opc.ensures)
    (rw c.in-4.is
    (rw (c.with_flags-t.ensures, c.preset.ensures) at c.xch.ensures))

pub returns-in-5 : goal.returns-in-5
unfolding format9
returns-in-5 c = rw (← c.format9_code-opc.ensures)
    (rw c.in-5.is
    (did-saw c.requires.0 (rw (c.with_flags-t.ensures, c.preset.ensures) at c.ashc.ensures)))

pub returns-in-6 : goal.returns-in-6
unfolding format9
returns-in-6 c = rw (← c.format9_code-opc.ensures)
    (rw c.in-6.is
    (did-saw c.requires.0 (rw (c.with_flags-t.ensures, c.preset.ensures) at c.mul.ensures)))

pub returns-in_default : goal.returns-in_default
unfolding format9
returns-in_default c = let e = c.format9_code-opc.ensures in
    rw (format9-last _ _ c.args.op (rw e at (at_least 7 c.format9_code-opc.result
    (((((((tt, λ d. c.requires.1.not-jsr (sym e ∙ d)), c.in_default.in_default-own.rest.0.0.0.0.1), c.in_default.in_default-own.rest.0.0.0.1), λ d. c.requires.1.not-sob (sym e ∙ d)), c.in_default.in_default-own.rest.0.0.1), c.in_default.in_default-own.rest.0.1), c.in_default.in_default-own.rest.1))))
    (did-saw c.requires.0 (rw (c.with_flags-t.ensures, c.preset.ensures) at c.div.ensures))
