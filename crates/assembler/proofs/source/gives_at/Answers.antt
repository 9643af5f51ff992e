use mathlib.Core.Path.{ap, ◌∙◌}
use mathlib.Core.List.{List}
use Prim.Native.Nat.{ℕ}
use Rattle.patchline.specs.Text.{gives}
use Rattle.assembler.specs.Source.{gives_at}
use Rattle.assembler.proofs.source.gives_at.Goals as goal

pub returns : goal.returns
unfolding gives_at
returns c = c.gives.ensures ∙ ap (λ (l : List ℕ). gives c.args.u.now l) c.line_at.ensures
