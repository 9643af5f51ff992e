use mathlib.Core.Path.{refl, ◌∙◌}
use native.Mathlib.Omega.{arith}
use Rattle.trace.specs.Trace.{entry_of}
use Rattle.trace.proofs.Laws.Bytes.{right-ten}
use Rattle.trace.proofs.Laws.{told-missing, told-there}
use Rattle.trace.proofs.step_verdict.Goals as goal

pub returns-then-word_at-step : goal.returns-then-word_at-step
returns-then-word_at-step c = told-missing c.args.trace.now (entry_of c.args.s) c.args.step (omega (arith, c.word_at.ensures, c.if-word_at-step.true))

pub entry_verdict-requires : goal.entry_verdict-requires
entry_verdict-requires c = (omega arith, rw c.entry_of.ensures (right-ten c.args.s))

pub returns : goal.returns
returns c = c.entry_verdict.ensures ∙ rw c.entry_of.ensures (told-there c.args.trace.now (entry_of c.args.s) c.args.step _ (omega (arith, c.word_at.ensures, c.if-word_at-step.false)) refl)
