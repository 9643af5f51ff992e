use Rattle.std.proofs.Common.{◌∙◌, arith}
use Rattle.job.proofs.Laws.{stored_more, stored-end}
use Rattle.job.proofs.store_words.Goals as goal

pub loop-k-preserved : goal.loop-k-preserved
loop-k-preserved c =
    stored_more _ _ _ (omega (arith, c.loop-k-test.true)) (omega arith) c.word_at-address.ensures c.byte_at.ensures c.byte_at-in-loop-k.ensures c.put_byte.ensures c.put_byte-in-loop-k.ensures ∙ c.loop-k.invariant

pub returns : goal.returns
returns c = stored-end c.args.input.now _ _ _ (omega (arith, c.loop-k-test.false)) ∙ c.loop-k.invariant
