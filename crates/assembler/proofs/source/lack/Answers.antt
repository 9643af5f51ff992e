use mathlib.Core.Path.{refl, ap, sym, ◌∙◌}
use Rattle.assembler.specs.Source.{has_labels, lacks}
use Rattle.patchline.specs.declared.oneline.Said.{Said}
use Rattle.assembler.proofs.source.lack.Goals as goal

pub returns-then-has_labels : goal.returns-then-has_labels
unfolding lacks
returns-then-has_labels c = rw (ap (λ (z : Said). has_labels z.how) (sym c.meaning-s.ensures.0) ∙ sym c.has_labels.ensures ∙ c.if-has_labels.true, c.is_missing-then-has_labels.ensures, c.is_missing.ensures, c.label_in-then-has_labels.ensures, c.second.ensures, c.label_in.ensures, c.first.ensures) refl

pub returns : goal.returns
unfolding lacks
returns c = rw (ap (λ (z : Said). has_labels z.how) (sym c.meaning-s.ensures.0) ∙ sym c.has_labels.ensures ∙ c.if-has_labels.false) refl
