use mathlib.Core.List.{[], ◌∷◌}
use mathlib.Core.Path.{◌≡◌, refl}
use native.Mathlib.Omega.{arith}
use Rattle.opcodes.proofs.Laws.Past.{last}
use Rattle.step.specs.declared.Kind.TheVariants.{Boots, Restores, Restarts}
use Rattle.step.specs.Step.{halt_option, power_up_option}
use Rattle.step.proofs.power_up_option.Goals as goal

pub returns-in-0 : goal.returns-in-0
unfolding power_up_option
returns-in-0 c = let e : c.args.settings.powerup ≡ 0 = omega arith in rw e

pub returns-in-1 : goal.returns-in-1
unfolding power_up_option
returns-in-1 c = let e : c.args.settings.powerup ≡ 1 = omega arith in rw e

pub returns-in-2 : goal.returns-in-2
unfolding power_up_option halt_option
returns-in-2 c = let e : c.args.settings.powerup ≡ 2 = omega arith in rw e c.halt_option.ensures

pub returns-in_default : goal.returns-in_default
unfolding power_up_option
returns-in_default c = last (Boots ∷ Restores ∷ halt_option c.args.settings ∷ Restarts ∷ []) Restarts c.args.settings.powerup refl c.in_default.in_default-own.rest
