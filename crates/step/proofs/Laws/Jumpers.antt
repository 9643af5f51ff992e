-- With the jumpers 11 and 11 every step and every power-up is what it is without jumpers: the same PS, the same kinds from modes 0 to 4, the same power-up, on every state, image and line.
use Prim.Native.Nat.{ℕ, ◌≤◌}
use native.Mathlib.Omega.{arith}
use mathlib.Core.Bool.{Bool, true, false}
use mathlib.Core.List.{List}
use mathlib.Core.Path.{◌≡◌, refl, ap}
use Rattle.board.specs.Work.{value, run, fitted, image_word, found, ◌>>=◌}
use Rattle.state.specs.declared.State.{State}
use Rattle.state.specs.declared.Outside.{Outside}
use Rattle.state.specs.declared.Settings.{Settings}
use Rattle.state.specs.declared.Mode.{Mode}
use Rattle.state.specs.declared.Mode.TheVariants.{Running, Waiting, PowerHalt, SwitchHalt, Locked, Saved}
use Rattle.state.specs.State.{mode_number, with_pc, with_mode, ps_of, cleared}
use Rattle.state.specs.Stack.{from_loc}
use Rattle.step.specs.declared.Kind.TheVariants.{Restarts}
use Rattle.step.specs.Step.{up, or_at, or_locked, halt_option, power_up_option, hears, kind_in, work_of, cause_of, error_of, step_of, power_up_of}
use Rattle.step.specs.Jumpers.{Eleven, plain_ps, plain_kind_in, plain_step_of, plain_up}

-- ---- PS

pub same-ps : (out : Outside) (bus : Bool) (s : State) → Eleven out.settings → ps_of out bus s ≡ plain_ps out bus s
unfolding ps_of
same-ps out bus s e = rw (e.halt, e.powerup)

-- ---- the step

option_is : (settings : Settings) → Eleven settings → halt_option settings ≡ Restarts
unfolding halt_option
option_is settings e = rw e.halt

same_kind : (mode : Mode) (hearing : Bool) (out : Outside) → Eleven out.settings → mode_number mode ≤ 4 → kind_in mode hearing out ≡ plain_kind_in mode hearing out
unfolding kind_in
same_kind Running hearing out e h = rw (option_is out.settings e)
same_kind Waiting hearing out e h = rw (option_is out.settings e)
same_kind PowerHalt hearing out e h = refl
same_kind SwitchHalt hearing out e h = rw (option_is out.settings e)
same_kind Locked hearing out e h = refl
same_kind Saved hearing out e h = absurd (omega arith)

pub same_step : (map : List ℕ) (out : Outside) (s : State) (m : List ℕ) → Eleven out.settings → mode_number s.mode ≤ 4 → step_of map out s m ≡ plain_step_of map out s m
unfolding step_of
same_step map out s m e h = ap (λ k. or_at (run map (work_of k out s) m) (cause_of k) (error_of map k out s m)) (same_kind s.mode (hears s) out e h)

-- ---- the power-up

fetched : (b : Bool) (s : State) (m : List ℕ) → or_locked (found b 0x16 (value s m)) m ≡ up (plain_up (found b 0x16 (value s m))) m
fetched true s m = refl
fetched false s m = refl

-- and nothing is written
pub same_power : (settings : Settings) (map m : List ℕ) → Eleven settings → power_up_of settings map m ≡ up (plain_up (run map (from_loc cleared 0x16) m)) m
unfolding power_up_of power_up_option work_of cleared with_mode run from_loc ◌>>=◌
same_power settings map m e = rw e.powerup (fetched (fitted map 0x16) (with_pc cleared (image_word m 0x16)) m)
