use mathlib.Core.Path.{◌∙◌}
use native.Mathlib.Omega.{arith}
use Rattle.job.proofs.Laws.{count_cut, count-over, count-good}
use Rattle.job.proofs.count_refusal.Goals as goal

pub returns-then-input-at-lt2 : goal.returns-then-input-at-lt2
returns-then-input-at-lt2 c = count_cut _ _ _ c.if-input-at-lt2.true

pub returns-then-most-word_at : goal.returns-then-most-word_at
returns-then-most-word_at c = c.over.ensures ∙ count-over c.args.s c.args.input.now c.args.at c.requires c.if-input-at-lt2.false
    (omega (arith, c.word_at.ensures, c.most.ensures, c.if-most-word_at.true))

pub returns : goal.returns
returns c = count-good c.args.s c.args.input.now c.args.at c.requires c.if-input-at-lt2.false
    (omega (arith, c.word_at.ensures, c.most.ensures, c.if-most-word_at.false))
