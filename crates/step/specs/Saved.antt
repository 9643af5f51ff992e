-- A RESTORE AFTER A SAVE, with nothing changed between, gives back registers, PC, indicators and I2; the mode is running, whatever it was.
use Rattle.std.specs.Prelude.{ℕ, zero, suc, ◌<◌, ◌≤◌, false, List, length}
use Rattle.board.specs.Work.{with_word}
use Rattle.state.specs.declared.State.{State}
use Rattle.state.specs.declared.Outside.{Outside}
use Rattle.state.specs.State.{reg, ps_of}
use Rattle.step.specs.Places.{save_place}

-- ---- the image after a save

-- the first n registers at their places
unfoldable pub kept_in : ℕ → State → List ℕ → List ℕ
kept_in zero s m = m
kept_in (suc n) s m = with_word (kept_in n s m) (save_place n) (reg s n)

abbrev pub saved_in : Outside → State → List ℕ → List ℕ
saved_in out s m = with_word (kept_in 8 s m) (save_place 8) (ps_of out false s)

-- the registers are words, and page 0 lies in the image
pub record Words (s : State) (m : List ℕ) : Type 0 where
  pub registers : (k : ℕ) → k ≤ 7 → reg s k < 65536
  pub size : 18 ≤ length m
