use Rattle.opcodes.proofs.Laws.Past.{at_least}
use borrow.Author.Rules.{rules}
use Rattle.state.specs.Registers.{reg_of}
use Rattle.state.proofs.Laws.Registers.{reg-pc}
use Rattle.state.specs.State.{reg}
use mathlib.Core.Path.{sym}
use Rattle.state.proofs.State.reg.Goals as goal

pub returns-in-0 : goal.returns-in-0
unfolding reg reg_of
returns-in-0 c = search rules

pub returns-in-1 : goal.returns-in-1
unfolding reg reg_of
returns-in-1 c = search rules

pub returns-in-2 : goal.returns-in-2
unfolding reg reg_of
returns-in-2 c = search rules

pub returns-in-3 : goal.returns-in-3
unfolding reg reg_of
returns-in-3 c = search rules

pub returns-in-4 : goal.returns-in-4
unfolding reg reg_of
returns-in-4 c = search rules

pub returns-in-5 : goal.returns-in-5
unfolding reg reg_of
returns-in-5 c = search rules

pub returns-in-6 : goal.returns-in-6
unfolding reg reg_of
returns-in-6 c = search rules

pub returns-in_default : goal.returns-in_default
unfolding reg reg_of
returns-in_default c = sym (reg-pc c.args.self.regs c.args.k (at_least 7 c.args.k c.in_default.in_default-own.rest))
