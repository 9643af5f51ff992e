use Prim.Native.Nat.{ℕ, ◌/◌}
use native.Mathlib.Omega.{arith}
use mathlib.Core.Path.{◌≡◌, ◌∙◌}
use borrow.Author.Tests.{ne_eqb}
use borrow.Author.Rules.{rules}
use Rattle.plate.proofs.Laws.Plate.{halves-right}
use Rattle.plate.proofs.format_by_halves.Goals as goal

upper-half : (op : ℕ) → op / 256 / 16 ≡ op / 4096
upper-half op = omega arith

pub returns-in-0 : goal.returns-in-0
returns-in-0 c = c.row_0.ensures ∙ (rw (upper-half c.args.op ∙ c.in-0.is) at (halves-right (c.args.op / 256) (search rules)))

pub returns-in-7 : goal.returns-in-7
returns-in-7 c = rw (upper-half c.args.op ∙ c.in-7.is) at (halves-right (c.args.op / 256) (search rules))

pub returns-in-8 : goal.returns-in-8
returns-in-8 c = c.row_8.ensures ∙ (rw (upper-half c.args.op ∙ c.in-8.is) at (halves-right (c.args.op / 256) (search rules)))

pub returns-in-15 : goal.returns-in-15
returns-in-15 c = rw (upper-half c.args.op ∙ c.in-15.is) at (halves-right (c.args.op / 256) (search rules))

pub returns-in_default : goal.returns-in_default
returns-in_default c = rw (upper-half c.args.op, ne_eqb _ _ c.in_default.in_default-own.rest.0.0.0.1, ne_eqb _ _ c.in_default.in_default-own.rest.0.0.1, ne_eqb _ _ c.in_default.in_default-own.rest.0.1, ne_eqb _ _ c.in_default.in_default-own.rest.1)
    at (halves-right (c.args.op / 256) (search rules))
