-- A job from end to end: its bytes in, bench's line out.
use Rattle.std.specs.Prelude.{ℕ, ◌≤◌, List, ◌≡◌, length, take}
use Rattle.wordbytes.specs.Words.{word_at}
use Rattle.step.specs.Step.{Up, up, power_up_of}
use Rattle.refusal.specs.Page.{answered, Left, left, call, first}
use Rattle.machine.specs.Numbers.{RanPage, ran_page}
use Rattle.machine.specs.Run.{End, end, run_of}
use Rattle.machine.specs.Door.{GoodBoard}
use Rattle.job.specs.Job.{lines_at, image_of, map_of, lines_of, line_words, why_read}
use Rattle.hexdigits.specs.Over.{in_front_of}
use Rattle.benchline.specs.Line.{print_why}
use Rattle.endline.specs.Report.{bench_board, end_text}
use Rattle.runjob.specs.declared.Started.{Started}

-- ---- a job's beginning: its board after power-up

abbrev pub up_of : List ℕ → Up
up_of input = power_up_of bench_board (map_of input) (image_of input)

-- what is asked for: the job is not refused
pub record Accepted (input image map lines : List ℕ) : Type 0 where
  pub none : why_read (length image) (length map) (length lines) input ≡ 0

-- and what is promised: the state, the number of line words and the buffers; the board is good
pub record RunBegins (input : List ℕ) (b : Started) (image map lines : List ℕ) : Type 0 where
  pub powered : up b.state image ≡ up_of input
  pub map_is : map ≡ map_of input
  pub lines_is : lines ≡ lines_of input
  pub count_is : b.count ≡ word_at input (lines_at input)
  pub within : b.count ≤ length lines
  pub good : GoodBoard map image (take b.count lines)

-- ---- its run

unfoldable pub run_in : List ℕ → End
run_in input = run_of bench_board (map_of input) (line_words input) (up_of input).state (up_of input).image

-- the answer of a run's end; the image after the run, the job's map and its line words
abbrev pub ran_at : List ℕ → End → Left RanPage (List ℕ × List ℕ × List ℕ)
ran_at input (end s m t) = left (answered (ran_page (record { state = s; tally = t }))) (m, map_of input, lines_of input)

unfoldable pub job_run : List ℕ → List ℕ → List ℕ → List ℕ → Left RanPage (List ℕ × List ℕ × List ℕ)
job_run input image map lines = call (why_read (length image) (length map) (length lines) input) (ran_at input (run_in input)) (image, map, lines)

-- ---- and its line

-- the line of a run's end at the front of the text; and the buffers of the run
abbrev pub end_line : List ℕ → List ℕ → End → Left ℕ (List ℕ × List ℕ × List ℕ × List ℕ)
end_line input text (end s m t) =
    let l = end_text (record { state = s; tally = t }) in
    left (answered (length l)) (in_front_of l text, m, map_of input, lines_of input)

-- 8, a text under 61; then the job's own
abbrev pub bench_why : List ℕ → List ℕ → List ℕ → List ℕ → List ℕ → ℕ
bench_why input text image map lines = first (print_why 61 (length text)) (why_read (length image) (length map) (length lines) input)

unfoldable pub bench_of : List ℕ → List ℕ → List ℕ → List ℕ → List ℕ → Left ℕ (List ℕ × List ℕ × List ℕ × List ℕ)
bench_of input text image map lines = call (bench_why input text image map lines) (end_line input text (run_in input)) (text, image, map, lines)
