use Rattle.std.proofs.Common.{refl, ◌∙◌, arith}
use Rattle.job.proofs.Laws.{listed_more, listed-end}
use Rattle.job.proofs.list_lines.Goals as goal

pub loop-k-preserved : goal.loop-k-preserved
loop-k-preserved c = listed_more _ _ _ _ (omega (arith, c.loop-k-test.true)) (omega arith) refl c.word_at.ensures c.put_line.ensures ∙ c.loop-k.invariant

pub returns : goal.returns
returns c = listed-end c.args.input.now _ _ _ _ (omega (arith, c.loop-k-test.false)) ∙ c.loop-k.invariant
