use mathlib.Core.Path.{sym, ◌∙◌}
use Rattle.step.specs.Step.{work_of}
use Rattle.step.proofs.Laws.Ends.{code_is}
use Rattle.step.proofs.logged.work.Goals as goal

pub returns-then-is_code : goal.returns-then-is_code
unfolding work_of
returns-then-is_code c = rw (code_is c.args.k (sym c.is_code.ensures ∙ c.if-is_code.true)) c.op_work.ensures
