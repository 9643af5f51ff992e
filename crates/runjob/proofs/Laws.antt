-- From the callees' promises to a job's run, and to bench's line.
use Rattle.std.proofs.Common.{Result, Ok, Err}
use Prim.Native.Nat.{ℕ, ◌<◌, ◌≤◌}
use mathlib.Core.List.{List}
use mathlib.Core.Path.{◌≡◌, refl, sym, ap, ◌∙◌}
use native.Mathlib.Omega.{arith}
use borrow.Author.Tests.{le-leb, lt-leb}
use lib.ListN.{length, take}
use Rattle.wordbytes.specs.Words.{word_at}
use Rattle.refusal.specs.Numbers.{text_short}
use Rattle.refusal.specs.declared.Refusal.{Refusal}
use Rattle.refusal.specs.Answer.{number}
use Rattle.refusal.specs.Page.{refused, answered, left}
use Rattle.refusal.proofs.Laws.Page.{answered-one, call-refused, call-right, call-told}
use Rattle.refusal.proofs.Laws.Refusal.{run_sound}
use Rattle.machine.specs.declared.Ran.{Ran}
use Rattle.machine.specs.Entry.{Finished, finished_page}
use Rattle.machine.specs.Numbers.{RanPage, ran_page}
use Rattle.machine.specs.Run.{End, end, run_of, ran_of}
use Rattle.machine.proofs.Laws.Back.{ran-one}
use Rattle.job.specs.Job.{lines_at, image_of, map_of, lines_of, line_words, Filled, why_read}
use Rattle.job.proofs.Laws.Sound.{job-taken}
use Rattle.hexdigits.specs.Over.{in_front_of}
use Rattle.benchline.specs.Line.{printed_page, print_of}
use Rattle.benchline.proofs.Laws.{line-length}
use Rattle.benchline.proofs.Laws.Printed.{printed-fits}
use Rattle.endline.specs.Report.{end_on, bench_board, end_text}
use Rattle.runjob.specs.declared.Started.{Started}
use Rattle.runjob.specs.Bench.{Accepted, RunBegins, run_in, ran_at, job_run, end_line, bench_of}

-- ---- the beginning: the buffers of an accepted job have their lengths, and its line words are few

pub record Filling (image map lines : List ℕ) (count : ℕ) : Type 0 where
  pub bytes : length image ≡ 65536
  pub pages : length map ≡ 256
  pub within : count ≤ length lines
  pub few : length (take count lines) ≤ 4096

pub filling : (input : List ℕ) {image map lines image' map' lines' : List ℕ} {count : ℕ} → Accepted input image map lines → Filled input image' map' lines' count → Filling image' map' lines' count
unfolding line_words
filling input {image} {map} {lines} h f =
    let taken = job-taken input bench_board.powerup bench_board.halt bench_board.register (length image) (length map) (length lines) refl h.none in
    let sound = run_sound (length (image_of input)) (map_of input) bench_board.powerup bench_board.halt bench_board.register (line_words input) taken.1 in
    rw (f.image-is, f.map_is, f.lines-is, f.count-is) (record { bytes = sound.0.bytes; pages = sound.0.pages; within = taken.0; few = sound.1 })

-- ---- the run

-- what a run's end answers
abbrev end_page : End → RanPage
end_page (end s m t) = ran_page (record { state = s; tally = t })

end-answer : (input : List ℕ) (x : End) → (ran_at input x).page ≡ answered (end_page x)
end-answer input (end s m t) = refl

module _ (input image map lines : List ℕ) where
  pub job-refused : (why : ℕ) → why ≡ why_read (length image) (length map) (length lines) input → (why ≡ 0 → ⊥) → left (refused why) (image, map, lines) ≡ job_run input image map lines
  unfolding job_run
  job-refused why e n = call-refused (why_read (length image) (length map) (length lines) input) (ran_at input (run_in input)) (image, map, lines) why e n

  pub job-done : {b : Started} {i m l : List ℕ} (ran : Ran) (n : List ℕ) → why_read (length image) (length map) (length lines) input ≡ 0 → RunBegins input b i m l
      → ran_of ran n ≡ run_of bench_board m (take b.count l) b.state i → left (answered (ran_page ran)) (n, m, l) ≡ job_run input image map lines
  unfolding job_run run_in line_words
  job-done {b} {i} {m} {l} ran n none h e =
      let begun : ran_of ran n ≡ run_of bench_board (map_of input) (take (word_at input (lines_at input)) (lines_of input)) b.state i = rw (← h.map_is, ← h.lines_is, ← h.count_is) e in
      let same : ran_of ran n ≡ run_in input = begun ∙ ap (λ u. run_of bench_board (map_of input) (take (word_at input (lines_at input)) (lines_of input)) u.state u.image) h.powered in
      rw (none, h.map_is, h.lines_is) (ap (ran_at input) same)

-- ---- the line

end-length : (ran : Ran) → length (end_text ran) ≡ 61
unfolding end_text end_on
end-length ran = line-length _ _ _ _ _ _

module _ (input text image map lines : List ℕ) where
  pub bench-short : length text < 61 → left (refused text_short) (text, image, map, lines) ≡ bench_of input text image map lines
  unfolding bench_of
  bench-short h = rw (lt-leb 61 (length text) h)

  module _ (room : 61 ≤ length text) (r : Finished) (i m l : List ℕ) (e : left (finished_page r) (i, m, l) ≡ job_run input image map lines) where
    pub bench-refused : (why : Refusal) → r ≡ Err why → left (refused (number why)) (text, i, m, l) ≡ bench_of input text image map lines
    unfolding job_run bench_of
    bench-refused why d =
        let t = call-told (why_read (length image) (length map) (length lines) input) (ran_at input (run_in input)) (image, map, lines) (end-answer input (run_in input)) (ap (λ z. left (finished_page z) (i, m, l)) (sym d) ∙ e) in
        rw (ap (λ z. z.0) t.2, ap (λ z. z.1) t.2, ap (λ z. z.2) t.2, le-leb 61 (length text) room)
        (call-refused (why_read (length image) (length map) (length lines) input) (end_line input text (run_in input)) (text, image, map, lines) (number why) t.0 t.1)

    pub bench-done : (ran : Ran) (p : Result ℕ Refusal) (text' : List ℕ) → r ≡ Ok ran → left (printed_page p) text' ≡ print_of (end_text ran) text
        → left (printed_page p) (text', i, m, l) ≡ bench_of input text image map lines
    unfolding job_run bench_of
    bench-done ran p text' d w =
        let h = call-right (why_read (length image) (length map) (length lines) input) (ran_at input (run_in input)) (image, map, lines) (ap (λ z. left (finished_page z) (i, m, l)) (sym d) ∙ e) in
        let fits : length (end_text ran) ≤ length text = omega (arith, end-length ran, room) in
        let line = w ∙ printed-fits (end_text ran) text fits in
        rw (ap (λ z. z.page) line, ap (λ z. z.lent) line, le-leb 61 (length text) room, h.0) (at (run_in input) h.1)
      where
        at : (x : End) → left (answered (ran_page ran)) (i, m, l) ≡ ran_at input x → left (answered (length (end_text ran))) (in_front_of (end_text ran) text, i, m, l) ≡ end_line input text x
        at (end s n t) q =
            let same : ran ≡ record { state = s; tally = t } = ran-one ran (record { state = s; tally = t }) (answered-one (ap (λ z. z.page) q)) in
            let buffers = ap (λ z. z.lent) q in
            rw (same, ap (λ z. z.0) buffers, ap (λ z. z.1) buffers, ap (λ z. z.2) buffers)
