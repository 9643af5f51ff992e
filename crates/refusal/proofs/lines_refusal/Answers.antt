use Rattle.std.proofs.Common.{sym, ◌∙◌, le-leb}
use borrow.Author.Tests.{lt-leb}
use Rattle.refusal.specs.Refusal.{lines_refusal}
use Rattle.refusal.proofs.lines_refusal.Goals as goal

pub returns-then-lines-gt-MOST_LINE_WORDS : goal.returns-then-lines-gt-MOST_LINE_WORDS
unfolding lines_refusal
returns-then-lines-gt-MOST_LINE_WORDS c = simp (lt-leb _ _ c.if-lines-gt-MOST_LINE_WORDS.true)

pub returns-then-not-all_plain : goal.returns-then-not-all_plain
unfolding lines_refusal
returns-then-not-all_plain c = simp (le-leb _ _ c.if-lines-gt-MOST_LINE_WORDS.false, sym c.all_plain.ensures ∙ c.if-not-all_plain.true)

pub returns : goal.returns
unfolding lines_refusal
returns c = simp (le-leb _ _ c.if-lines-gt-MOST_LINE_WORDS.false, sym c.all_plain.ensures ∙ c.if-not-all_plain.false)
