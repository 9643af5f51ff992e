-- The same step by step, as the code goes along.
use Rattle.std.specs.Prelude.{ℕ, ◌+◌, ◌*◌, ◌-◌, List, [], ◌∷◌}
use Rattle.wordbytes.specs.Words.{word_at}
use Rattle.state.specs.declared.State.{State}
use Rattle.state.specs.State.{heard}
use Rattle.step.specs.declared.Cause.TheVariants as Cause
use Rattle.step.specs.Step.{After, after, step_of, Up, up}
use Rattle.machine.specs.Trail.{trail_of, last_after}
use Rattle.endline.specs.Report.{bench_board}
use Rattle.trace.specs.declared.Verdict.{Verdict}
use Rattle.trace.specs.declared.Verdict.TheVariants.{Missing}
use Rattle.trace.specs.Trace.{entries_from, first_wrong}

-- what a trace gives from a step on
unfoldable pub told_from : List ℕ → ℕ → List (List ℕ)
told_from t step = entries_from t (2 + step * 20) (word_at t 0 - step)

-- a step's own part of the verdict: it is missing, or its first wrong field
abbrev pub step_verdict : ℕ → List ℕ → List (List ℕ) → Verdict
step_verdict step right [] = Missing step
step_verdict step right (e ∷ told) = first_wrong step 0 right e

-- one step on bench's board; the steps over line words; the image where they end
abbrev pub stepped : List ℕ → ℕ → State → List ℕ → After
stepped map line s m = step_of map (heard bench_board line) s m

abbrev pub trail : List ℕ → List ℕ → State → List ℕ → List After
trail map lines s m = trail_of bench_board map lines s m

abbrev pub image_on : List ℕ → List ℕ → State → List ℕ → List ℕ
image_on map lines s m = (last_after (after s m Cause.Nothing) (trail map lines s m)).image

-- a step's state and image
abbrev pub up_after : After → Up
up_after a = up a.state a.image
