use mathlib.Core.Path.{ap, ◌∙◌}
use mathlib.Core.List.{List}
use Prim.Native.Nat.{ℕ}
use native.Mathlib.Omega.{arith}
use Rattle.patchline.proofs.Laws.{label-six}
use Rattle.patchline.specs.Text.{without_padding, rest_from, rest_of}
use lib.ListN.{length, drop}
use Rattle.patchline.proofs.text.rest.Goals as goal

pub skipped-requires : goal.skipped-requires
skipped-requires c = let h = label-six c.args.line.now in omega (arith, ap length c.label-n.ensures)

pub returns : goal.returns
unfolding rest_of
returns c = let from = c.skipped.ensures ∙ ap (λ (l : List ℕ). rest_from (length l)) c.label-n.ensures in
    c.unpadded.ensures ∙ ap without_padding (c.after.ensures ∙ ap (λ (n : ℕ). drop n c.args.line.now) from)
