-- The nine places: R0 to R5, SP, PC and PS as words at 0 to 10 (hex). A halt option saves them, its end and a power-up option pick them up.
use Rattle.std.specs.Prelude.{ℕ, false}
use Rattle.board.specs.Work.{Work, give, load, ◌>>=◌, ◌>>◌}
use Rattle.board.specs.Work as Work
use Rattle.state.specs.declared.State.{State}
use Rattle.state.specs.declared.Outside.{Outside}
use Rattle.state.specs.declared.Mode.TheVariants.{Running, Saved}
use Rattle.state.specs.State.{reg, with_reg, with_mode, with_status, ps_of}
use Rattle.wordmath.specs.Address.{twice}

-- register k has place k; the ninth is that of PS
abbrev pub save_place : ℕ → ℕ
save_place k = twice k

unfoldable pub keep : State → ℕ → Work (Unit {0})
keep s k = Work.store (save_place k) (reg s k)

unfoldable pub pick_up : State → ℕ → Work State
pick_up s k = do
  v ← load (save_place k)
  give (with_reg s k v)

-- four registers, one after the other
unfoldable pub keep_four : State → ℕ → ℕ → ℕ → ℕ → Work (Unit {0})
keep_four s h i j k = do
  keep s h
  keep s i
  keep s j
  keep s k

unfoldable pub pick_up_four : State → ℕ → ℕ → ℕ → ℕ → Work State
pick_up_four s h i j k = do
  s ← pick_up s h
  s ← pick_up s i
  s ← pick_up s j
  pick_up s k

-- R0 to R5, SP, PC
unfoldable pub keep_registers : State → Work (Unit {0})
keep_registers s = do
  keep_four s 0 1 2 3
  keep_four s 4 5 6 7

unfoldable pub pick_up_registers : State → Work State
pick_up_registers s = do
  s ← pick_up_four s 0 1 2 3
  pick_up_four s 4 5 6 7

-- Saved with the PS formed now; then nothing is done until I3 is clear.
unfoldable pub save_places : Outside → State → Work State
save_places out s = do
  keep_registers s
  Work.store (save_place 8) (ps_of out false s)
  give (with_mode s Saved)

-- Picked up, PS as if popped, and running.
unfoldable pub restore_places : State → Work State
restore_places s = do
  s ← pick_up_registers s
  ps ← load (save_place 8)
  give (with_mode (with_status s ps) Running)
