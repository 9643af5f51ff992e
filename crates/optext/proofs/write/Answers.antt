use Rattle.std.proofs.Common.{◌≡◌, refl, arith, rules}
use Rattle.optext.specs.Line.{op_text, text_of}
use Rattle.optext.proofs.Laws.Meets.{writes-8, writes-6, writes-7, writes_line, own_row}
use Rattle.optext.proofs.write.Goals as goal

pub returns-then-text-lt32 : goal.returns-then-text-lt32
returns-then-text-lt32 c = writes-8 c.args.words.now c.args.text.now c.if-text-lt32.true

pub returns-then-is_empty : goal.returns-then-is_empty
returns-then-is_empty c = writes-6 c.args.words.now c.args.text.now c.if-text-lt32.false (search rules)

pub returns-then-words-taken : goal.returns-then-words-taken
returns-then-words-taken c = let a = c.args in
    writes-7 a.words.now a.text.now c.if-text-lt32.false (search rules) (omega (arith, rw c.of-first.ensures at c.taken-taken.ensures.0))

pub returns : goal.returns
unfolding text_of
returns c = let a = c.args in
    let p : op_text c.of-first.result.word c.word_at-x.result c.word_at-y.result ≡ text_of a.words.now = rw (c.word_at-x.ensures, c.word_at-y.ensures, c.first_takes.ensures.0, c.of-first.ensures) refl in
    writes_line a.words.now a.text.now c.put_line-length.new.out c.put_line-length.result _ c.if-text-lt32.false (search rules) (omega (arith, rw c.of-first.ensures at c.taken-taken.ensures.0))
    (rw p at (own_row _ _ _ _ _ _ _ c.of-first.result.its_row c.put_line-length.ensures)) (rw c.of-first.ensures at c.taken-taken.ensures.0)
