use Rattle.board.proofs.Laws.{did-give, did-saw}
use Rattle.formats2to4.proofs.Laws.Last.{format2-last}
use Rattle.formats2to4.specs.Format2.{format2}
use borrow.Author.Rules.{rules}
use Rattle.formats2to4.proofs.format2.format2.Goals as goal

pub returns-in-2 : goal.returns-in-2
unfolding format2
returns-in-2 c = rw (← c.only_register-k.ensures, ← c.format2_code.ensures, c.in-2.is, c.iak.ensures) (did-give c.requires)

pub returns-in-3 : goal.returns-in-3
unfolding format2
returns-in-3 c = rw (← c.only_register-k.ensures, ← c.format2_code.ensures, c.in-3.is) (did-saw c.requires c.rtn.ensures)

pub returns-in-4 : goal.returns-in-4
unfolding format2
returns-in-4 c = rw (← c.only_register-k.ensures, ← c.format2_code.ensures, c.in-4.is) c.msko.ensures

pub returns-in_default : goal.returns-in_default
unfolding format2
returns-in_default c = rw (← c.only_register-k.ensures, ← c.format2_code.ensures, format2-last _ _ _ _ c.in_default.in_default-own.rest.0.0.1 c.in_default.in_default-own.rest.0.1 c.in_default.in_default-own.rest.1 (search rules))
    (did-saw c.requires c.prtn.ensures)
