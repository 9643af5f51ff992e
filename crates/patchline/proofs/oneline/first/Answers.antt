use mathlib.Core.Path.{ap, ◌∙◌}
use Prim.Native.Nat.{ℕ}
use Rattle.patchline.specs.Text.{slice}
use Rattle.patchline.specs.Line.{operands_at, first_in}
use Rattle.patchline.proofs.oneline.first.Goals as goal

pub returns : goal.returns
unfolding first_in
returns c = let t = c.args.t.now in
    c.part.ensures ∙ ap (λ (from : ℕ). slice from c.comma_at-to.result t) c.operands_at-from.ensures.0 ∙ ap (λ (to : ℕ). slice (operands_at t) to t) c.comma_at-to.ensures.0
