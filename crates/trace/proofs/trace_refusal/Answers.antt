use Rattle.trace.proofs.Laws.{cut-count, cut_inside, whole}
use Rattle.trace.proofs.trace_refusal.Goals as goal

pub returns-then-trace-lt2 : goal.returns-then-trace-lt2
returns-then-trace-lt2 c = cut-count _ c.if-trace-lt2.true

pub returns-then-trace-word_at : goal.returns-then-trace-word_at
returns-then-trace-word_at c = cut_inside c.args.trace.now _ c.word_at.ensures c.if-trace-lt2.false c.if-trace-word_at.true

pub returns : goal.returns
returns c = whole c.args.trace.now _ c.word_at.ensures c.if-trace-lt2.false c.if-trace-word_at.false
