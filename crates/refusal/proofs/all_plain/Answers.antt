use Rattle.std.proofs.Common.{sym, ◌∙◌, arith}
use Rattle.refusal.specs.Refusal.{plain}
use Rattle.refusal.proofs.Laws.Four.{plain_more, seen_all}
use Rattle.refusal.proofs.all_plain.Goals as goal

pub loop-line-preserved : goal.loop-line-preserved
loop-line-preserved c = plain_more c.args.lines.now c.loop-line.line-index c.loop-line.seen (omega (arith, c.loop-line-test.true)) ∙ c.loop-line.invariant

pub returns : goal.returns
returns c = c.plain.ensures ∙ sym (seen_all _ plain c.args.lines.now c.loop-line.line-index (omega arith)) ∙ c.loop-line.invariant
