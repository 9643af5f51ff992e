-- With the jumpers 11 and 11 every step and every power-up is what it is without jumpers: the same PS, the same kinds from modes 0 to 4, the same power-up, on every state, image and line.
use Rattle.std.specs.Prelude.{ℕ, ◌+◌, ◌*◌, Bool, cond, List, ◌≡◌}
use Rattle.board.specs.Work.{Came, value, blank, run}
use Rattle.wordmath.specs.Number.{digit}
use Rattle.state.specs.declared.State.{State}
use Rattle.state.specs.declared.Outside.{Outside}
use Rattle.state.specs.declared.Settings.{Settings}
use Rattle.state.specs.declared.Mode.{Mode}
use Rattle.state.specs.declared.Mode.TheVariants.{Running, Waiting, PowerHalt, SwitchHalt, Locked, Saved}
use Rattle.state.specs.State.{with_mode, cleared}
use Rattle.step.specs.declared.Kind.{Kind}
use Rattle.step.specs.declared.Kind.TheVariants.{OpCode, HaltEnd, Restarts, Waits, Stuck}
use Rattle.step.specs.Step.{After, or_at, raised, hears, work_of, cause_of, error_of}

pub record Eleven (settings : Settings) : Type 0 where
  pub powerup : settings.powerup ≡ 3
  pub halt : settings.halt ≡ 3

-- ---- PS

-- 0F00, plus 8000 at power fail, 4000 at a bus error, 1000 if I2 is set, then N 8, Z 4, V 2, C 1
abbrev pub plain_ps : Outside → Bool → State → ℕ
plain_ps out bus s =
    0x0f00 + digit out.fail * 0x8000 + digit bus * 0x4000 + digit s.i2 * 0x1000 + digit s.flags.n * 8 + digit s.flags.z * 4 + digit s.flags.v * 2 + digit s.flags.c

-- ---- the step

-- 1. I3: PC from 16; then 2 and 3, where I0 and I1 are heard
abbrev plain_asked : Bool → Outside → Kind → Kind
plain_asked hearing out other = cond out.i3 Restarts (cond hearing (raised out other) other)

-- There is no mode 5.
abbrev pub plain_kind_in : Mode → Bool → Outside → Kind
plain_kind_in Running hearing out = plain_asked hearing out OpCode
plain_kind_in Waiting hearing out = plain_asked hearing out Waits
plain_kind_in PowerHalt hearing out = cond out.fail Waits HaltEnd
plain_kind_in SwitchHalt hearing out = cond out.i3 Restarts Waits
plain_kind_in Locked hearing out = Stuck
plain_kind_in Saved hearing out = Stuck

abbrev pub plain_step_of : List ℕ → Outside → State → List ℕ → After
plain_step_of map out s m =
    let k = plain_kind_in s.mode (hears s) out in
    or_at (run map (work_of k out s) m) (cause_of k) (error_of map k out s m)

-- ---- the power-up

-- PC from 16; locked with PC 0 if page 0 is unfitted
abbrev pub plain_up : Came State → State
plain_up (value s n) = s
plain_up (blank a) = with_mode cleared Locked
