-- When a step answers 8: it can't fetch 16 or pick up the nine places, with the address that it reached first; or it was locked before, or the halt option locks it, with none.
use Rattle.std.specs.Prelude.{ℕ, true, ◌≡◌}
use Rattle.state.specs.declared.Outside.{Outside}
use Rattle.state.specs.declared.Mode.{Mode}
use Rattle.step.specs.declared.Kind.{Kind}
use Rattle.step.specs.declared.Kind.TheVariants.{HaltEnd, Restarts, Restores}

-- the steps that fetch PC from 16, and the one that picks up the nine places from 0 on, with the first address that each reads
pub data Fetches : Kind → ℕ → Type 0 where
  halt_end : Fetches HaltEnd 0x16
  restarts : Fetches Restarts 0x16
  restores : Fetches Restores 0

-- locked before; or I3 selects the halt option 10, lock up processor
pub data LocksUp (out : Outside) (mode : Mode) : Type 0 where
  before : mode ≡ Mode.Locked → LocksUp out mode
  by_option : out.i3 ≡ true → out.settings.halt ≡ 2 → LocksUp out mode
