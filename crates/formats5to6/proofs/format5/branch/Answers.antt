use Rattle.formats5to6.specs.Format5.{branch}
use Rattle.state.proofs.Laws.State.{cond_yes, cond_no}
use mathlib.Core.Path.{sym, ◌∙◌}
use Rattle.formats5to6.proofs.format5.branch.Goals as goal

pub returns-then-holds : goal.returns-then-holds
unfolding branch
returns-then-holds c = rw (c.with_pc.ensures, c.plus.ensures, c.displacement.ensures) (sym (cond_yes _ (sym c.holds.ensures ∙ c.if-holds.true)))

pub returns : goal.returns
unfolding branch
returns c = sym (cond_no _ (sym c.holds.ensures ∙ c.if-holds.false))
