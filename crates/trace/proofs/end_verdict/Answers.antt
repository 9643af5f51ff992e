use native.Mathlib.Omega.{arith}
use Rattle.trace.proofs.Laws.{told-extra, told_none}
use Rattle.trace.proofs.end_verdict.Goals as goal

pub returns-then-steps-word_at : goal.returns-then-steps-word_at
returns-then-steps-word_at c = told-extra c.args.trace.now c.args.steps (omega (arith, c.word_at.ensures, c.if-steps-word_at.true))

pub returns : goal.returns
returns c = told_none c.args.trace.now c.args.steps (omega (arith, c.word_at.ensures, c.if-steps-word_at.false))
