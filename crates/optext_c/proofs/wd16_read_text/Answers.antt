use Rattle.std.proofs.Common.{Err, ap, refl, sym, ◌∙◌}
use Rattle.refusal.proofs.Laws.Answer.{number-some}
use native.Mathlib.Omega.{arith}
use Rattle.optext_c.proofs.Laws.{count_small, column-small, read-21, read-38, read-10, given-three, read_done, read-refused}
use Rattle.answer.proofs.Laws.{room}
use Rattle.optext_c.proofs.wd16_read_text.Goals as goal

pub returns-in-Err : goal.returns-in-Err
returns-in-Err c = rw c.from.ensures (read-21 c.args.text.now c.args.words.now c.args.answer.now _ c.in-Err.ensures (number-some c.in-Err.why))

pub returns-then-words-ne0 : goal.returns-then-words-ne0
returns-then-words-ne0 c = rw c.from-then-words-ne0.ensures (read-38 c.args.text.now c.args.words.now c.args.answer.now (sym c.in_default.ensures) c.if-words-ne0.true)

pub returns-then-words-lt6 : goal.returns-then-words-lt6
returns-then-words-lt6 c = rw c.from-then-words-lt6.ensures (read-10 c.args.text.now c.args.words.now c.args.answer.now (sym c.in_default.ensures) c.if-words-ne0.false c.if-words-lt6.true)

pub put_words-requires : goal.put_words-requires
put_words-requires c = let s = count_small _ _ _ _ _ c.read.ensures c.in-Ok.is c.read.auto.words in (c.if-words-lt6.false, s.0, s.1)

pub put_answer-requires : goal.put_answer-requires
put_answer-requires c = let s = count_small _ _ _ _ _ c.read.ensures c.in-Ok.is c.read.auto.words in (room _ _ c.in_default.ensures refl, omega (arith, s.1), omega arith, omega arith)

pub refused_at-requires : goal.refused_at-requires
refused_at-requires c = rw c.in-Err-EarlyEnd.field-0-is (room _ _ c.in_default.ensures refl, column-small _ _ _ _ _ _ _ c.read.ensures (c.in-Err-EarlyEnd.is ∙ ap Err c.in-Err-EarlyEnd.field-0-is) refl)

pub refused_at-requires-in-Err-AfterText : goal.refused_at-requires-in-Err-AfterText
refused_at-requires-in-Err-AfterText c = rw c.in-Err-AfterText.field-0-is (room _ _ c.in_default.ensures refl, column-small _ _ _ _ _ _ _ c.read.ensures (c.in-Err-AfterText.is ∙ ap Err c.in-Err-AfterText.field-0-is) refl)

pub refused_at-requires-in-Err-UnknownName : goal.refused_at-requires-in-Err-UnknownName
refused_at-requires-in-Err-UnknownName c = rw c.in-Err-UnknownName.field-0-is (room _ _ c.in_default.ensures refl, column-small _ _ _ _ _ _ _ c.read.ensures (c.in-Err-UnknownName.is ∙ ap Err c.in-Err-UnknownName.field-0-is) refl)

pub refused_at-requires-in-Err-BadOperand : goal.refused_at-requires-in-Err-BadOperand
refused_at-requires-in-Err-BadOperand c = rw c.in-Err-BadOperand.field-0-is (room _ _ c.in_default.ensures refl, column-small _ _ _ _ _ _ _ c.read.ensures (c.in-Err-BadOperand.is ∙ ap Err c.in-Err-BadOperand.field-0-is) refl)

pub returns-in-Ok : goal.returns-in-Ok
returns-in-Ok c = read_done c.args.text.now c.args.words.now c.args.answer.now _ _ _ _ _ _ (sym c.in_default.ensures) c.if-words-ne0.false (given-three c.args.text.now c.args.words.now c.args.answer.now _ _ _ c.if-words-lt6.false c.word_at.ensures c.word_at-2.ensures c.word_at-3.ensures) c.read.ensures c.in-Ok.is c.read.auto.words c.put_words.ensures c.put_answer.ensures

pub returns-in-Err-EarlyEnd : goal.returns-in-Err-EarlyEnd
returns-in-Err-EarlyEnd c = read-refused c.args.text.now c.args.words.now c.args.answer.now _ _ _ _ _ _ _ _ (sym c.in_default.ensures) c.if-words-ne0.false (given-three c.args.text.now c.args.words.now c.args.answer.now _ _ _ c.if-words-lt6.false c.word_at.ensures c.word_at-2.ensures c.word_at-3.ensures) c.read.ensures (c.in-Err-EarlyEnd.is ∙ ap Err c.in-Err-EarlyEnd.field-0-is) refl (rw c.in-Err-EarlyEnd.field-0-is at c.refused_at.ensures)

pub returns-in-Err-AfterText : goal.returns-in-Err-AfterText
returns-in-Err-AfterText c = read-refused c.args.text.now c.args.words.now c.args.answer.now _ _ _ _ _ _ _ _ (sym c.in_default.ensures) c.if-words-ne0.false (given-three c.args.text.now c.args.words.now c.args.answer.now _ _ _ c.if-words-lt6.false c.word_at.ensures c.word_at-2.ensures c.word_at-3.ensures) c.read.ensures (c.in-Err-AfterText.is ∙ ap Err c.in-Err-AfterText.field-0-is) refl (rw c.in-Err-AfterText.field-0-is at c.refused_at-in-Err-AfterText.ensures)

pub returns-in-Err-UnknownName : goal.returns-in-Err-UnknownName
returns-in-Err-UnknownName c = read-refused c.args.text.now c.args.words.now c.args.answer.now _ _ _ _ _ _ _ _ (sym c.in_default.ensures) c.if-words-ne0.false (given-three c.args.text.now c.args.words.now c.args.answer.now _ _ _ c.if-words-lt6.false c.word_at.ensures c.word_at-2.ensures c.word_at-3.ensures) c.read.ensures (c.in-Err-UnknownName.is ∙ ap Err c.in-Err-UnknownName.field-0-is) refl (rw c.in-Err-UnknownName.field-0-is at c.refused_at-in-Err-UnknownName.ensures)

pub returns-in-Err-BadOperand : goal.returns-in-Err-BadOperand
returns-in-Err-BadOperand c = read-refused c.args.text.now c.args.words.now c.args.answer.now _ _ _ _ _ _ _ _ (sym c.in_default.ensures) c.if-words-ne0.false (given-three c.args.text.now c.args.words.now c.args.answer.now _ _ _ c.if-words-lt6.false c.word_at.ensures c.word_at-2.ensures c.word_at-3.ensures) c.read.ensures (c.in-Err-BadOperand.is ∙ ap Err c.in-Err-BadOperand.field-0-is) refl (rw c.in-Err-BadOperand.field-0-is at c.refused_at-in-Err-BadOperand.ensures)
