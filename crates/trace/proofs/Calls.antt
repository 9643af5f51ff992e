-- From a job's reading and its steps to what the public calls leave.
use Prim.Native.Nat.{ℕ, zero, suc, ◌+◌, ◌*◌, ◌<◌, ◌≤◌}
use mathlib.Core.List.{List, [], ◌∷◌}
use mathlib.Core.Path.{◌≡◌, refl, sym, ap, ◌∙◌}
use native.Mathlib.Nat.{zero-add}
use native.Mathlib.Omega.{arith}
use lib.ListN.{length, take}
use lib.Seq.{sets, sets-eq, length-take-le}
use borrow.Author.Tests.{le-leb, lt-leb}
use Rattle.wordbytes.specs.Words.{word_at, bytes_in}
use Rattle.hexdigits.specs.Over.{in_front_of}
use Rattle.step.specs.Step.{After}
use Rattle.refusal.specs.Numbers.{output_short}
use Rattle.refusal.specs.Page.{refused, answered, left}
use Rattle.machine.proofs.Laws.Counted.{trail-length}
use Rattle.job.specs.Job.{lines_at, map_of, lines_of, line_words, why_read}
use Rattle.job.proofs.Laws.Sound.{lines-length}
use Rattle.endline.specs.Report.{bench_board}
use Rattle.runjob.specs.declared.Started.{Started}
use Rattle.runjob.specs.Bench.{up_of, RunBegins}
use Rattle.trace.specs.declared.Verdict.{Verdict}
use Rattle.trace.specs.Trace.{entries_of, steps_of, right_trace, image_after, joined, trace_bytes, told_in, why_trace, compared, verdict_of, verdict_page, check_of, longest_trace, made_of, make_of}
use Rattle.trace.proofs.Laws.Bytes.{trace-length}
use Rattle.trace.specs.Walk.{trail, image_on}

-- ---- from where a job begins

module _ (input : List ℕ) {b : Started} {i m l : List ℕ} (h : RunBegins input b i m l) where
  begun-trail : trail m (take b.count l) b.state i ≡ steps_of input
  unfolding steps_of line_words
  begun-trail = rw (h.map_is, h.lines_is, h.count_is) (ap (λ u. trail (map_of input) (take (word_at input (lines_at input)) (lines_of input)) u.state u.image) h.powered)

  begun-image : image_on m (take b.count l) b.state i ≡ image_after input
  unfolding image_after steps_of line_words
  begun-image = rw (h.map_is, h.lines_is, h.count_is) (ap (λ u. image_on (map_of input) (take (word_at input (lines_at input)) (lines_of input)) u.state u.image) h.powered)

  begun-few : word_at input (lines_at input) ≤ length (lines_of input)
  begun-few = rw (h.count_is, h.lines_is) at h.within

-- ---- the check

module _ (input t image map lines : List ℕ) where
  pub check-job : (why : ℕ) → why ≡ why_read (length image) (length map) (length lines) input → (why ≡ 0 → ⊥) → left (refused why) (image, map, lines) ≡ check_of input t image map lines
  unfolding check_of
  check-job zero e n = absurd (n refl)
  check-job (suc why) e n = rw (← e)

  pub check-cut : (why : ℕ) → why_read (length image) (length map) (length lines) input ≡ 0 → why ≡ why_trace t → (why ≡ 0 → ⊥) → left (refused why) (image, map, lines) ≡ check_of input t image map lines
  unfolding check_of
  check-cut zero j e n = absurd (n refl)
  check-cut (suc why) j e n = rw (j, ← e)

  pub check_done : {b : Started} {i m l : List ℕ} (n : List ℕ) (v : Verdict) → why_read (length image) (length map) (length lines) input ≡ 0 → why_trace t ≡ 0 → RunBegins input b i m l
      → (v ≡ compared 0 (entries_of (trail m (take b.count l) b.state i)) (told_in t)) × (n ≡ image_on m (take b.count l) b.state i)
      → left (answered (verdict_page v)) (n, m, l) ≡ check_of input t image map lines
  unfolding check_of
  check_done n v j w h e =
      let found : v ≡ verdict_of input t = e.0 ∙ ap (λ rs. compared 0 (entries_of rs) (told_in t)) (begun-trail input h) in
      let there : n ≡ image_after input = e.1 ∙ begun-image input h in
      rw (j, w, found, there, h.map_is, h.lines_is)

-- ---- the trace made

-- as many entries as steps, as many steps as line words
entries-count : (rs : List After) → length (entries_of rs) ≡ length rs
unfolding entries_of
entries-count [] = refl
entries-count (a ∷ rs) = ap suc (entries-count rs)

module _ (input : List ℕ) (few : word_at input (lines_at input) ≤ length (lines_of input)) where
  right-count : length (right_trace input) ≡ word_at input (lines_at input)
  unfolding steps_of line_words
  right-count = entries-count (steps_of input) ∙ trail-length bench_board (map_of input) (line_words input) (up_of input).state (up_of input).image ∙ length-take-le (word_at input (lines_at input)) (lines_of input) few

  right-length : length (trace_bytes (right_trace input)) ≡ 2 + word_at input (lines_at input) * 20
  right-length = trace-length (steps_of input) ∙ ap (λ n. 2 + n * 20) right-count

  -- the count, then the entries' bytes, are the trace; it stands in front
  right-bytes : bytes_in (word_at input (lines_at input) ∷ joined (right_trace input)) ≡ trace_bytes (right_trace input)
  unfolding trace_bytes
  right-bytes = ap (λ n. bytes_in (n ∷ joined (right_trace input))) (sym right-count)

  in-front : (out : List ℕ) → longest_trace ≤ length out → sets out 0 (bytes_in (word_at input (lines_at input) ∷ joined (right_trace input))) ≡ in_front_of (trace_bytes (right_trace input)) out
  unfolding in_front_of
  in-front out l =
      let size = right-length in
      let most = lines-length input in
      let t = trace_bytes (right_trace input) in
      ap (λ b. sets out 0 b) right-bytes ∙ sets-eq t out 0 (omega arith) ∙ rw (zero-add (length t))

module _ (input out image map lines : List ℕ) where
  pub make-job : (why : ℕ) → why ≡ why_read (length image) (length map) (length lines) input → (why ≡ 0 → ⊥) → left (refused why) (out, image, map, lines) ≡ make_of input out image map lines
  unfolding make_of
  make-job zero e n = absurd (n refl)
  make-job (suc why) e n = rw (← e)

  pub make-short : why_read (length image) (length map) (length lines) input ≡ 0 → length out < longest_trace → left (refused output_short) (out, image, map, lines) ≡ make_of input out image map lines
  unfolding make_of
  make-short j h = rw (j, lt-leb longest_trace (length out) h)

  make-answered : why_read (length image) (length map) (length lines) input ≡ 0 → longest_trace ≤ length out → made_of input out ≡ make_of input out image map lines
  unfolding make_of
  make-answered j h = rw (j, le-leb longest_trace (length out) h)

  pub make-done : {b : Started} {i m l : List ℕ} (n out' : List ℕ) → why_read (length image) (length map) (length lines) input ≡ 0 → RunBegins input b i m l → longest_trace ≤ length out
      → (out' ≡ sets out 0 (bytes_in (b.count ∷ joined (entries_of (trail m (take b.count l) b.state i))))) × (n ≡ image_on m (take b.count l) b.state i)
      → left (answered (2 + b.count * 20)) (out', n, m, l) ≡ make_of input out image map lines
  make-done {b} n out' j h k e =
      let few = begun-few input h in
      let bytes : out' ≡ in_front_of (trace_bytes (right_trace input)) out = e.0 ∙ rw (begun-trail input h, h.count_is) (in-front input few out k) in
      let size : 2 + b.count * 20 ≡ length (trace_bytes (right_trace input)) = rw h.count_is (sym (right-length input few)) in
      let there : n ≡ image_after input = e.1 ∙ begun-image input h in
      rw (bytes, size, there, h.map_is, h.lines_is) (make-answered j k)
