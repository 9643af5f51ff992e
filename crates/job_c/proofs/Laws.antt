-- From the code's facts to what the exported call leaves.
use Prim.Native.Nat.{ℕ}
use mathlib.Core.List.{List}
use mathlib.Core.Path.{◌≡◌, refl}
use Rattle.refusal.specs.Page.{left, told}
use Rattle.answer.specs.Answer.{three_words, answer_why}
use Rattle.answer.proofs.Laws.{bad, given}
use Rattle.std.proofs.Common.{Result, Ok, Err}
use Rattle.refusal.specs.declared.Refusal.{Refusal}
use Rattle.refusal.specs.Answer.{number}
use Rattle.job.specs.Job.{job_page, job_of}
use Rattle.job_c.specs.Calls.{job_laid, read_call}

module _ (input image map lines b : List ℕ) (n : ℕ) (h : n ≡ answer_why b) where
  abbrev kept : List ℕ × List ℕ × List ℕ → List ℕ × List ℕ × List ℕ × List ℕ
  kept l = (l.0, l.1, l.2, b)

  pub read-bad : (n ≡ 0 → ⊥) → told n (image, map, lines, b) ≡ read_call input image map lines b
  unfolding read_call
  read-bad some = bad job_laid (λ place. kept) kept (answer_why b) n (job_of input image map lines) (image, map, lines) h some

  module _ (none : n ≡ 0) (image' map' lines' : List ℕ) (r : Result ℕ Refusal) (e : left (job_page r) (image', map', lines') ≡ job_of input image map lines) where
    pub done : (k : ℕ) (b' : List ℕ) → r ≡ Ok k → b' ≡ three_words k 0 0 → told 0 (image', map', lines', b') ≡ read_call input image map lines b
    unfolding read_call
    done k b' q p = given job_laid (λ place. kept) kept (answer_why b) n (job_of input image map lines) (image, map, lines) h none _ (rw (← e, q, p) refl)

    pub stopped : (why : Refusal) → r ≡ Err why → told (number why) (image', map', lines', b) ≡ read_call input image map lines b
    unfolding read_call
    stopped why q = given job_laid (λ place. kept) kept (answer_why b) n (job_of input image map lines) (image, map, lines) h none _ (rw (← e, q) refl)
