-- The line of a run's end is the line of its parts.
use Prim.Native.Nat.{ℕ}
use mathlib.Core.Bool.{false}
use mathlib.Core.List.{List}
use mathlib.Core.Path.{◌≡◌, ◌∙◌}
use Rattle.state.specs.declared.Outside.{Outside}
use Rattle.state.specs.declared.Settings.{Settings}
use Rattle.state.specs.State.{mode_number, ps_of, heard}
use Rattle.machine.specs.declared.Ran.{Ran}
use Rattle.std.specs.Prelude.{Option}
use Rattle.refusal.specs.Page.{Left}
use Rattle.benchline.specs.Line.{line_text, print_of}
use Rattle.machine.specs.Numbers.{registers_of}
use Rattle.endline.specs.Report.{bench_board, blank_place, blank_address, end_on, end_text}

pub end_is : (r : Ran) (text : List ℕ) (w : Left ℕ (List ℕ)) (regs : List ℕ) (board : Settings) (out : Outside) (ps mode : ℕ) (at told : Option ℕ)
    → w ≡ print_of (line_text regs ps mode r.tally.blanks at told) text
    → regs ≡ registers_of r.state → out ≡ heard board 0 → ps ≡ ps_of out false r.state
    → mode ≡ mode_number r.state.mode → at ≡ blank_place r.tally.first → told ≡ blank_address r.tally.first
    → w ≡ print_of (end_on board r) text
unfolding end_on
end_is r text w regs board out ps mode at told e e1 e2 e3 e4 e5 e6 = e ∙ rw (e1, e3, e2, e4, e5, e6)

pub bench-is : (r : Ran) (text : List ℕ) (w : Left ℕ (List ℕ)) (board : Settings)
    → w ≡ print_of (end_on board r) text → board ≡ bench_board → w ≡ print_of (end_text r) text
unfolding end_text
bench-is r text w board e e0 = e ∙ rw e0
