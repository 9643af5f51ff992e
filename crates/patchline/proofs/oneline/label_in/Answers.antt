use mathlib.Core.Path.{sym, ◌∙◌}
use Rattle.patchline.proofs.Laws.{label-in-yes, label-in-no}
use Rattle.patchline.proofs.oneline.label_in.Goals as goal

pub returns-then-is_name : goal.returns-then-is_name
returns-then-is_name c = label-in-yes _ _ c.bare-u.ensures (sym c.is_name.ensures ∙ c.if-is_name.true)

pub returns : goal.returns
returns c = label-in-no _ _ c.bare-u.ensures (sym c.is_name.ensures ∙ c.if-is_name.false)
