-- From the check's promise to what the exported call leaves.
use Prim.Native.Nat.{ℕ, zero, suc}
use mathlib.Core.List.{List}
use mathlib.Core.Path.{◌≡◌, refl}
use lib.ListN.{length}
use Rattle.refusal.specs.Page.{answered, left, call, nothing, first, told}
use Rattle.job.specs.Job.{why_job, why_read}
use Rattle.trace.specs.declared.Verdict.{Verdict}
use Rattle.std.proofs.Common.{Ok, Err}
use Rattle.refusal.specs.declared.Refusal.{Refusal}
use Rattle.refusal.specs.Answer.{number}
use Rattle.trace.specs.Trace.{Checked, why_trace, verdict_of, verdict_page, buffers_after, checked_page, check_of}
use Rattle.answer.specs.Answer.{answer_why}
use Rattle.answer.proofs.Laws.{bad, given}
use Rattle.trace_c.specs.Calls.{verdict_words, verdict_in, check_left, check_call}

module _ (job t b : List ℕ) (n : ℕ) (h : n ≡ answer_why b) where
  pub call-bad : (n ≡ 0 → ⊥) → told n b ≡ check_call job t b
  unfolding check_call
  call-bad some = bad verdict_in (λ place none. b) (λ none. b) (answer_why b) n (check_left job t) nothing h some

  module _ (image map lines : List ℕ) (i : length image ≡ 65536) (m : length map ≡ 256) (l : length lines ≡ 4096) where
    page-is : (check_of job t image map lines).page ≡ (check_left job t).page
    unfolding check_of why_read
    page-is = rw (i, m, l) (split (first (why_job job) (why_trace t)))
      where
        split : (why : ℕ) → (call why (left (answered (verdict_page (verdict_of job t))) (buffers_after job)) (image, map, lines)).page ≡ (call why (left (answered (verdict_page (verdict_of job t))) nothing) nothing).page
        split zero = refl
        split (suc why) = refl

    module _ (none : n ≡ 0) (r : Checked) (x : List ℕ × List ℕ × List ℕ) (met : left (checked_page r) x ≡ check_of job t image map lines) where
      pub call-done : (b' : List ℕ) (v : Verdict) → r ≡ Ok v → b' ≡ verdict_words (verdict_page v) → told 0 b' ≡ check_call job t b
      unfolding check_call
      call-done b' v d e = given verdict_in (λ place none. b) (λ none. b) (answer_why b) n (check_left job t) nothing h none _ (rw (← page-is, ← met, d, e))

      pub call-refused : (why : Refusal) → r ≡ Err why → told (number why) b ≡ check_call job t b
      unfolding check_call
      call-refused why d = given verdict_in (λ place none. b) (λ none. b) (answer_why b) n (check_left job t) nothing h none _ (rw (← page-is, ← met, d))
