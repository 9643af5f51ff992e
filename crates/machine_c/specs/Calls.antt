-- What the exported calls leave: the number that they answer, and the bytes that they were lent to write. Bytes that are no state's,
-- no tally's or no settings' are refused before all else; then a call is machine's, read in bytes.
use Rattle.std.specs.Prelude.{ℕ, cond, List}
use Rattle.refusal.specs.Numbers.{no_state}
use Rattle.refusal.specs.Page.{call, Told, reading}
use Rattle.machine.specs.Numbers.{StatePage, nowhere, TurnPage, RanPage}
use Rattle.machine.specs.Entry.{power_up_page, step_page, run_page}
use Rattle.machine_c.specs.Layout.{state_bytes, tally_bytes, state_from, settings_from, refused_up, refused_step, refused_run}

-- ---- power-up and one step: the state's bytes and the image

-- the cause that a power-up leaves is 0, and it tells no address
abbrev pub up_in : StatePage → List ℕ → List ℕ × List ℕ
up_in p m = (state_bytes p 0 nowhere, m)

abbrev pub step_in : TurnPage → List ℕ → List ℕ × List ℕ
step_in p m = (state_bytes p.state p.cause p.told, m)

unfoldable pub power_up_call : List ℕ → List ℕ → List ℕ → List ℕ → Told (List ℕ × List ℕ)
power_up_call b image map w = reading up_in (λ m. (b, m)) (call (cond (refused_up b w) no_state 0) (power_up_page (settings_from w) image map) image)

unfoldable pub step_call : List ℕ → List ℕ → List ℕ → List ℕ → ℕ → Told (List ℕ × List ℕ)
step_call b image map w line = reading step_in (λ m. (b, m)) (call (cond (refused_step b w) no_state 0) (step_page (settings_from w) image map line (state_from b)) image)

-- ---- a run: the state's bytes, the tally's and the image. The cause that it leaves is 0, and it tells no address but in the tally

abbrev pub run_laid : RanPage → List ℕ → List ℕ × List ℕ × List ℕ
run_laid p m = (state_bytes p.state 0 nowhere, tally_bytes p.blanks p.first, m)

unfoldable pub run_call : List ℕ → List ℕ → List ℕ → List ℕ → List ℕ → List ℕ → Told (List ℕ × List ℕ × List ℕ)
run_call b t image map w lines = reading run_laid (λ m. (b, t, m)) (call (cond (refused_run b t w) no_state 0) (run_page (settings_from w) image map lines (state_from b)) image)
