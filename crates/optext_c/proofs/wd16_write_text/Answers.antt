use Rattle.std.proofs.Common.{Err, ap, refl, sym, ◌∙◌}
use Rattle.refusal.proofs.Laws.Answer.{number-some}
use mathlib.Core.List.{[], ◌∷◌}
use native.Mathlib.Omega.{arith}
use lib.Seq.{length-take-le}
use Rattle.optext_c.proofs.Laws.{given-words, line_small, write-21, write-38, written, written-line}
use Rattle.answer.proofs.Laws.{room}
use Rattle.optext_c.proofs.wd16_write_text.Goals as goal

pub returns-in-Err : goal.returns-in-Err
returns-in-Err c = rw c.from.ensures (write-21 c.args.words.now c.args.text.now c.args.answer.now _ c.in-Err.ensures (number-some c.in-Err.why))

pub returns-then-bytes-ne0 : goal.returns-then-bytes-ne0
returns-then-bytes-ne0 c = rw c.from-then-bytes-ne0.ensures (write-38 c.args.words.now c.args.text.now c.args.answer.now (sym c.in_default.ensures) c.if-bytes-ne0.true)

pub slice_bounds-write-end : goal.slice_bounds-write-end
slice_bounds-write-end c = sym (length-take-le c.lent-n.result (c.word_at.result ∷ c.word_at-2.result ∷ c.word_at-3.result ∷ []) (omega (arith, c.lent-n.ensures.1)))

pub put_answer-requires : goal.put_answer-requires
put_answer-requires c = let s = line_small _ _ _ _ _ _ c.write.ensures c.in-Ok.is in (room _ _ c.in_default.ensures refl, s.0, s.1, omega arith)

pub returns-in-Ok : goal.returns-in-Ok
returns-in-Ok c = written-line c.args.words.now c.args.text.now c.args.answer.now _ _ _ _ _ _ (sym c.in_default.ensures) c.if-bytes-ne0.false (given-words _ _ _ _ _ c.lent-n.ensures.0 c.word_at.ensures c.word_at-2.ensures c.word_at-3.ensures) c.write.ensures c.in-Ok.is c.put_answer.ensures

pub returns-in-Err-TextShort : goal.returns-in-Err-TextShort
returns-in-Err-TextShort c = rw c.from-in-Err-TextShort.ensures (written c.args.words.now c.args.text.now c.args.answer.now _ _ _ _ (sym c.in_default.ensures) c.if-bytes-ne0.false (given-words _ _ _ _ _ c.lent-n.ensures.0 c.word_at.ensures c.word_at-2.ensures c.word_at-3.ensures) c.write.ensures (c.in-Err-TextShort.is ∙ ap Err c.in-Err-TextShort.field-0-is))

pub returns-in-Err-NoWords : goal.returns-in-Err-NoWords
returns-in-Err-NoWords c = written c.args.words.now c.args.text.now c.args.answer.now _ _ _ _ (sym c.in_default.ensures) c.if-bytes-ne0.false (given-words _ _ _ _ _ c.lent-n.ensures.0 c.word_at.ensures c.word_at-2.ensures c.word_at-3.ensures) c.write.ensures (c.in-Err-NoWords.is ∙ ap Err c.in-Err-NoWords.field-0-is)

pub returns-in-Err-WordMissing : goal.returns-in-Err-WordMissing
returns-in-Err-WordMissing c = written c.args.words.now c.args.text.now c.args.answer.now _ _ _ _ (sym c.in_default.ensures) c.if-bytes-ne0.false (given-words _ _ _ _ _ c.lent-n.ensures.0 c.word_at.ensures c.word_at-2.ensures c.word_at-3.ensures) c.write.ensures (c.in-Err-WordMissing.is ∙ ap Err c.in-Err-WordMissing.field-0-is)
