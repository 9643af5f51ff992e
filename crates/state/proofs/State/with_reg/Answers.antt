use Rattle.opcodes.proofs.Laws.Past.{at_least}
use Rattle.state.specs.Registers.{set_reg}
use Rattle.state.proofs.Laws.Registers.{with-pc}
use Rattle.state.specs.State.{with_reg}
use native.Mathlib.Omega.{arith}
use mathlib.Core.Path.{◌≡◌, sym, ap}
use Rattle.state.proofs.State.with_reg.Goals as goal

pub returns-in-0 : goal.returns-in-0
unfolding with_reg set_reg
returns-in-0 c = let e : c.args.k ≡ 0 = omega arith in rw e

pub returns-in-1 : goal.returns-in-1
unfolding with_reg set_reg
returns-in-1 c = let e : c.args.k ≡ 1 = omega arith in rw e

pub returns-in-2 : goal.returns-in-2
unfolding with_reg set_reg
returns-in-2 c = let e : c.args.k ≡ 2 = omega arith in rw e

pub returns-in-3 : goal.returns-in-3
unfolding with_reg set_reg
returns-in-3 c = let e : c.args.k ≡ 3 = omega arith in rw e

pub returns-in-4 : goal.returns-in-4
unfolding with_reg set_reg
returns-in-4 c = let e : c.args.k ≡ 4 = omega arith in rw e

pub returns-in-5 : goal.returns-in-5
unfolding with_reg set_reg
returns-in-5 c = let e : c.args.k ≡ 5 = omega arith in rw e

pub returns-in-6 : goal.returns-in-6
unfolding with_reg set_reg
returns-in-6 c = let e : c.args.k ≡ 6 = omega arith in rw e

pub returns-in_default : goal.returns-in_default
unfolding with_reg set_reg
returns-in_default c = ap (λ z. record { regs = z; flags = c.args.self.flags; i2 = c.args.self.i2; mode = c.args.self.mode; mark = c.args.self.mark }) (sym (with-pc c.args.self.regs c.args.k c.args.v (at_least 7 c.args.k c.in_default.in_default-own.rest)))
