use mathlib.Core.Path.{ap, ◌∙◌}
use Prim.Native.Nat.{ℕ, ◌%◌}
use native.Mathlib.Omega.{arith}
use Rattle.assembler.specs.Source.{origin_at, value_of}
use Rattle.assembler.proofs.source.value.Goals as goal

pub returns : goal.returns
unfolding value_of
returns c = ap (λ (z : ℕ). z % 65536) (c.requires.at c.giver-k.result (omega (arith, c.giver-k.ensures.1)) ∙ ap (λ (k : ℕ). origin_at c.args.source.now k) c.giver-k.ensures.0)
