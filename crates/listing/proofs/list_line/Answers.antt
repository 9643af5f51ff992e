use Rattle.std.proofs.Common.{sym}
use Rattle.std.proofs.lemmas.Result.{err_from_is_err_and}
use Rattle.refusal.proofs.Laws.Answer.{number-some}
use Rattle.wordbytes.specs.Words.{word_at}
use Rattle.listing.proofs.Laws.{fits_word, moves-few, room-there, call-refused, call_line}
use Rattle.std.proofs.Common.{arith}
use Rattle.listing.proofs.list_line.Goals as goal

pub returns-in_err-line_refusal : goal.returns-in_err-line_refusal
returns-in_err-line_refusal c =
    let p = err_from_is_err_and c.from_residual.result c.from_residual.ensures.1 in
    rw (p.1, p.2) (call-refused c.args.image.now c.args.map.now c.args.a c.args.last c.args.text.now _ c.in_err-line_refusal.ensures (number-some c.in_err-line_refusal.field-0.0))

pub put_line-n-requires : goal.put_line-n-requires
put_line-n-requires c = (room-there _ _ _ _ _ (sym c.in_ok-line_refusal.ensures), fits_word c.word_at-w.result (word_at c.args.image.now c.args.a) c.found_at-found.result c.word_at-w.ensures c.found_at-found.ensures.1)

pub overflow_mul-moves_on : goal.overflow_mul-moves_on
overflow_mul-moves_on c = omega (arith, c.moves_on.ensures, moves-few (word_at c.args.image.now c.args.a) c.found_at-found.result c.found_at-found.ensures.1)

pub returns : goal.returns
returns c = call_line c.args.image.now c.args.map.now c.args.a c.args.last c.args.text.now _ _ _ _ _ _ _ c.told.result (sym c.in_ok-line_refusal.ensures) c.found_at-found.ensures.0 c.word_at-w.ensures c.word_at-x.ensures c.word_at-y.ensures c.put_line-n.ensures c.moves_on.ensures c.told.ensures
