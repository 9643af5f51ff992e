-- The line of a run's end: R0-R5, SP, PC, PS, mode digit, blanks, the first one's place and address, or ---- ----.
use Rattle.std.specs.Prelude.{ℕ, true, false, List, Option, Some, None}
use Rattle.state.specs.declared.Settings.{Settings}
use Rattle.state.specs.State.{mode_number, ps_of, heard}
use Rattle.machine.specs.declared.Ran.{Ran}
use Rattle.machine.specs.Numbers.{registers_of}
use Rattle.machine.specs.declared.FirstBlank.{FirstBlank}
use Rattle.benchline.specs.Line.{line_text}

-- bench runs with the third microm fitted and the jumpers 11 and 11
abbrev pub bench_board : Settings
bench_board = record { blocks = true; powerup = 3; halt = 3; register = 0 }

abbrev pub blank_place : Option FirstBlank → Option ℕ
blank_place (Some b) = Some b.place
blank_place None = None

abbrev pub blank_address : Option FirstBlank → Option ℕ
blank_address (Some b) = Some b.address
blank_address None = None

-- PS as it is formed on a quiet line
unfoldable pub end_on : Settings → Ran → List ℕ
end_on board r =
    line_text (registers_of r.state) (ps_of (heard board 0) false r.state) (mode_number r.state.mode) r.tally.blanks (blank_place r.tally.first) (blank_address r.tally.first)

-- on bench's board
unfoldable pub end_text : Ran → List ℕ
end_text r = end_on bench_board r
