use Rattle.formats2to4.proofs.Laws.Last.{format4-last}
use Rattle.formats2to4.specs.Format4.{format4}
use borrow.Author.Rules.{rules}
use Rattle.formats2to4.proofs.format4.format4.Goals as goal

pub returns-then-opc-eq1 : goal.returns-then-opc-eq1
unfolding format4
returns-then-opc-eq1 c = rw (← c.argument-n.ensures, ← c.format4_code-opc.ensures, c.if-opc-eq1.true) c.svca.ensures

pub returns-then-opc-eq2 : goal.returns-then-opc-eq2
unfolding format4
returns-then-opc-eq2 c = rw (← c.argument-n.ensures, ← c.format4_code-opc.ensures, c.if-opc-eq2.true) c.svc.ensures

pub returns : goal.returns
unfolding format4
returns c = rw (← c.argument-n.ensures, ← c.format4_code-opc.ensures, format4-last _ _ _ _ c.if-opc-eq1.false c.if-opc-eq2.false (search rules)) c.svc-2.ensures
