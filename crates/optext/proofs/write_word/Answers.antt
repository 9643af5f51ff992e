use Rattle.optext.proofs.Laws.Meets.{word-8, word-line}
use Rattle.optext.proofs.write_word.Goals as goal

pub returns-then-text-lt32 : goal.returns-then-text-lt32
returns-then-text-lt32 c = word-8 c.args.w c.args.text.now c.if-text-lt32.true

pub returns : goal.returns
returns c = word-line c.args.w c.args.text.now c.put_line-length.new.out c.put_line-length.result c.if-text-lt32.false c.put_line-length.ensures
