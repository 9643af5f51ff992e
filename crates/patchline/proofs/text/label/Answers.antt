use mathlib.Core.Path.{sym, ◌∙◌}
use Rattle.patchline.proofs.Laws.{label-taken, label-other, label-none}
use lib.Seq.{length-take-le}
use Rattle.patchline.proofs.text.label.Goals as goal

pub slice_bounds-is_name-end : goal.slice_bounds-is_name-end
slice_bounds-is_name-end c = sym (length-take-le _ _ c.past-n.ensures.1)

pub slice_bounds-gives-end : goal.slice_bounds-gives-end
slice_bounds-gives-end c = sym (length-take-le _ _ c.past-n.ensures.1)

pub slice_bounds-result-end : goal.slice_bounds-result-end
slice_bounds-result-end c = sym (length-take-le _ _ c.past-n.ensures.1)

pub returns-then-gives : goal.returns-then-gives
returns-then-gives c = label-taken _ _ c.past-n.ensures.0 (sym c.is_name.ensures ∙ c.if-is_name.true) (sym c.gives.ensures ∙ c.if-gives.true)

pub returns-then-is_name : goal.returns-then-is_name
returns-then-is_name c = label-other _ _ c.past-n.ensures.0 (sym c.is_name.ensures ∙ c.if-is_name.true) (sym c.gives.ensures ∙ c.if-gives.false)

pub returns : goal.returns
returns c = label-none _ _ c.past-n.ensures.0 (sym c.is_name.ensures ∙ c.if-is_name.false)
