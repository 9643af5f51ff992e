use Rattle.board.proofs.Laws.{did-give}
use borrow.Author.Tests.{ne_eqb}
use Rattle.step.specs.Execute.{by_format}
use Rattle.step.proofs.execute.by_format.Goals as goal

pub returns-then-moves : goal.returns-then-moves
unfolding by_format
returns-then-moves c = rw (ne_eqb _ _ c.in_default.in_default-own.rest.0.0.0.0.0.1, ne_eqb _ _ c.in_default.in_default-own.rest.0.0.0.0.1, ne_eqb _ _ c.in_default.in_default-own.rest.0.0.0.1, ne_eqb _ _ c.in_default.in_default-own.rest.0.0.1, ← c.moves.ensures, c.if-moves.true)
    c.format8.ensures

pub returns-in-1 : goal.returns-in-1
unfolding by_format
returns-in-1 c = rw c.in-1.is c.low_codes.ensures

pub returns-in-5 : goal.returns-in-5
unfolding by_format
returns-in-5 c = rw (c.in-5.is, c.branch-s.ensures) (did-give c.requires)

pub returns-in-6 : goal.returns-in-6
unfolding by_format
returns-in-6 c = rw (c.in-6.is, c.format6.ensures) (did-give c.requires)

pub returns-in-7 : goal.returns-in-7
unfolding by_format
returns-in-7 c = rw c.in-7.is c.format7.ensures

pub returns-in-9 : goal.returns-in-9
unfolding by_format
returns-in-9 c = rw c.in-9.is c.format9.ensures

pub returns-in-10 : goal.returns-in-10
unfolding by_format
returns-in-10 c = rw c.in-10.is c.format10.ensures

pub returns-else-moves : goal.returns-else-moves
unfolding by_format
returns-else-moves c = rw (ne_eqb _ _ c.in_default.in_default-own.rest.0.0.0.0.0.1, ne_eqb _ _ c.in_default.in_default-own.rest.0.0.0.0.1, ne_eqb _ _ c.in_default.in_default-own.rest.0.0.0.1, ne_eqb _ _ c.in_default.in_default-own.rest.0.0.1, ← c.moves.ensures, c.if-moves.false, ne_eqb _ _ c.in_default.in_default-own.rest.0.1, ne_eqb _ _ c.in_default.in_default-own.rest.1, c.apart.ensures)
    c.trap_now.ensures
