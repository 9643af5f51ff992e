use Rattle.std.proofs.Common.{refl, ap, sym, ◌∙◌, arith, rules}
use Rattle.patchline.specs.Text.{without_padding}
use Rattle.patchline.proofs.Laws.{pad-kept, pad_more, pad_none}
use Rattle.patchline.proofs.text.unpadded.Goals as goal

pub loop-last-init : goal.loop-last-init
loop-last-init c = refl

pub returns-then-last-ne32 : goal.returns-then-last-ne32
returns-then-last-ne32 c = let e = c.in-Some.ensures.cases.0 in
    e ∙ sym (pad-kept _ _ c.if-last-ne32.true) ∙ ap without_padding (sym e) ∙ c.loop-last.invariant

pub loop-last-smaller : goal.loop-last-smaller
loop-last-smaller c = omega (arith, c.in-Some.ensures.cases.1)

pub loop-last-preserved : goal.loop-last-preserved
loop-last-preserved c = sym (pad_more _ _ c.if-last-ne32.false) ∙ ap without_padding (sym c.in-Some.ensures.cases.0) ∙ c.loop-last.invariant

pub returns : goal.returns
returns c = pad_none _ (search rules) ∙ c.loop-last.invariant
