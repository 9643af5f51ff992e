use Rattle.std.proofs.Common.{refl, lt-ltb, le-ltb}
use Rattle.std.proofs.lemmas.Result.{err_from_is_err_and}
use Rattle.refusal.proofs.Laws.Answer.{refused-first}
use Rattle.listing.specs.Calls.{line_why}
use Rattle.listing.proofs.line_refusal.Goals as goal

pub returns-in_err-board_refusal : goal.returns-in_err-board_refusal
unfolding line_why
returns-in_err-board_refusal c =
    let p = err_from_is_err_and c.from_residual.result c.from_residual.ensures.1 in
    rw (p.1, p.2) (refused-first c.in_err-board_refusal.field-0.0 _ _ c.in_err-board_refusal.ensures)

pub returns-then-bad_stretch : goal.returns-then-bad_stretch
unfolding line_why
returns-then-bad_stretch c = rw (← c.in_ok-board_refusal.ensures, ← c.bad_stretch.ensures, c.if-bad_stretch.true) refl

pub returns-then-text-lt52 : goal.returns-then-text-lt52
unfolding line_why
returns-then-text-lt52 c = rw (← c.in_ok-board_refusal.ensures, ← c.bad_stretch.ensures, c.if-bad_stretch.false, lt-ltb _ 52 c.if-text-lt52.true) refl

pub returns : goal.returns
unfolding line_why
returns c = rw (← c.in_ok-board_refusal.ensures, ← c.bad_stretch.ensures, c.if-bad_stretch.false, le-ltb _ 52 c.if-text-lt52.false) refl
