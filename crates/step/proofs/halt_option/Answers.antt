use mathlib.Core.List.{[], ◌∷◌}
use mathlib.Core.Path.{◌≡◌, refl}
use native.Mathlib.Omega.{arith}
use Rattle.opcodes.proofs.Laws.Past.{last}
use Rattle.step.specs.declared.Kind.TheVariants.{Boots, Saves, LocksUp, Restarts}
use Rattle.step.specs.Step.{halt_option}
use Rattle.step.proofs.halt_option.Goals as goal

pub returns-in-0 : goal.returns-in-0
unfolding halt_option
returns-in-0 c = let e : c.args.settings.halt ≡ 0 = omega arith in rw e

pub returns-in-1 : goal.returns-in-1
unfolding halt_option
returns-in-1 c = let e : c.args.settings.halt ≡ 1 = omega arith in rw e

pub returns-in-2 : goal.returns-in-2
unfolding halt_option
returns-in-2 c = let e : c.args.settings.halt ≡ 2 = omega arith in rw e

pub returns-in_default : goal.returns-in_default
unfolding halt_option
returns-in_default c = last (Boots ∷ Saves ∷ LocksUp ∷ Restarts ∷ []) Restarts c.args.settings.halt refl c.in_default.in_default-own.rest
