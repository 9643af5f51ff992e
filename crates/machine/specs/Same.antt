-- A run over one line word, as many steps as are asked for: what the run over that many such words is.
use Rattle.std.specs.Prelude.{ℕ, ◌+◌, ◌<◌, ◌≤◌, List, ◌≡◌, length, replicate, Option, Some, None}
use Rattle.board.specs.Exec.{Lent}
use Rattle.state.specs.declared.State.{State}
use Rattle.state.specs.declared.Settings.{Settings}
use Rattle.refusal.specs.Page.{Left, call}
use Rattle.machine.specs.declared.Ran.{Ran}
use Rattle.machine.specs.declared.Tally.{Tally}
use Rattle.machine.specs.declared.FirstBlank.{FirstBlank}
use Rattle.machine.specs.Numbers.{RanPage}
use Rattle.machine.specs.Run.{rest_of_run, run_of, ran_of}
use Rattle.machine.specs.Entry.{run_end, step_why}

-- ---- what is right

abbrev pub same_of : Settings → List ℕ → ℕ → ℕ → State → List ℕ → Left RanPage (List ℕ)
same_of settings map line n s m = run_end (run_of settings map (replicate n line) s m)

-- the refusals are a step's: there is one line word
unfoldable pub run_same_page : Settings → List ℕ → List ℕ → ℕ → ℕ → State → Left RanPage (List ℕ)
run_same_page settings image map line n s = call (step_why settings image map line) (same_of settings map line n s image) image

-- ---- a part of a run

-- a first blank among so many steps, and a tally of so many
abbrev pub BlankAmong : ℕ → Option FirstBlank → Type 0
BlankAmong n (Some b) = b.place < n
BlankAmong n None = Unit {0}

pub record Tallied (n : ℕ) (t : Tally) : Type 0 where
  pub few : t.blanks ≤ n
  pub among : BlankAmong n t.first

-- what a part promises after n steps: it ends as the rest of a run over these line words, with the tally so far
pub record Parted (settings : Settings) (map lines : List ℕ) (n : ℕ) (b : Ran) (m : List ℕ) (r : Ran) (m' : List ℕ) : Type 0 where
  pub same : ran_of r m' ≡ rest_of_run settings map n lines b.state m b.tally
  pub tallied : Tallied (n + length lines) r.tally
  pub lent : Lent map m'

-- what all parts promise
pub record SameLine (settings : Settings) (map : List ℕ) (line n : ℕ) (s : State) (m : List ℕ) (r : Ran) (m' : List ℕ) : Type 0 where
  pub same : ran_of r m' ≡ run_of settings map (replicate n line) s m
  pub lent : Lent map m'
