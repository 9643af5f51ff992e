-- The theorems that specs/Traces.antt states.
use Prim.Native.Nat.{ℕ, zero, suc, ◌-◌}
use native.Mathlib.Omega.{arith}
use mathlib.Core.Bool.{Bool, true, false, cond}
use mathlib.Core.List.{List}
use mathlib.Core.Path.{◌≡◌, refl, sym, ap, ◌∙◌, subst}
use lib.Dec.{eqb}
use lib.ListN.{length}
use Rattle.wordbytes.specs.Words.{word_at}
use Rattle.wordbytes.proofs.Laws.{word-again}
use Rattle.refusal.specs.Numbers.{no_state}
use Rattle.refusal.specs.Page.{answered, left, call, first, told, reading, nothing}
use Rattle.refusal.proofs.Laws.Page.{first-both, call-right}
use Rattle.job.specs.Job.{why_job}
use Rattle.trace.specs.declared.Verdict.{Verdict}
use Rattle.trace.specs.declared.Verdict.TheVariants.{Accepted, Wrong, Missing, Extra}
use Rattle.std.specs.Prelude.{Ok, Err}
use Rattle.trace.specs.Trace.{Checked, steps_of, right_trace, trace_bytes, told_in, why_trace, compared, verdict_of, verdict_page, why_check, buffers_after, check_of}
use Rattle.trace.specs.First.{AtStep, EndsAt, Says}
use Rattle.trace.proofs.Laws.Bytes.{told-again, taken-again, bytes_back}
use Rattle.trace.proofs.Laws.Right.{compared-self, checked-one}
use Rattle.trace.proofs.Laws.First.{verdict-says}
use Rattle.answer.specs.Answer.{answer_why}
use Rattle.trace_c.specs.Calls.{verdict_words, check_left, verdict_in, check_call}
use Rattle.laws.specs.Traces.{accepts, Wd16Accepts, Tells, accepted, wrong, missing, extra, Wd16Tells, CheckTells}

-- ---- the words of a verdict

verdict-word : (v : Verdict) → (word_at (verdict_words (verdict_page v)) 0 ≡ 0 → v ≡ Accepted)
verdict-word Accepted e = refl
verdict-word (Wrong step field right) e = absurd (omega (arith, e))
verdict-word (Missing step) e = absurd (omega (arith, e))
verdict-word (Extra step) e = absurd (omega (arith, e))

none-off : (n : ℕ) → n - 0 ≡ n
none-off n = omega arith

tells-of : (rs ts : List (List ℕ)) (v : Verdict) → Says 0 rs ts v → Tells rs ts (verdict_words (verdict_page v))
tells-of rs ts Accepted h = accepted refl h
tells-of rs ts (Wrong k f x) h =
    wrong x refl (subst (λ (n : ℕ). AtStep rs ts n (word_at (verdict_words (verdict_page (Wrong k f x))) 4) x) (sym (word-again k))
    (subst (λ (j : ℕ). AtStep rs ts k j x) (sym (word-again f)) (subst (λ (n : ℕ). AtStep rs ts n f x) (none-off k) h.1)))
tells-of rs ts (Missing k) h = missing refl (subst (λ (n : ℕ). EndsAt ts rs n) (none-off k ∙ sym (word-again k)) h.1) refl
tells-of rs ts (Extra k) h = extra refl (subst (λ (n : ℕ). EndsAt rs ts n) (none-off k ∙ sym (word-again k)) h.1) refl

-- ---- the call

pub wd16-tells : Wd16Tells
unfolding check_call answer_why
wd16-tells job t b b' e = by (eqb (length b) 6) e
  where
    page-by : (why : ℕ) → told 0 b' ≡ reading verdict_in (λ none. b) (call why (left (answered (verdict_page (verdict_of job t))) nothing) nothing) → Tells (right_trace job) (told_in t) b'
    page-by zero e = subst (λ (x : List ℕ). Tells (right_trace job) (told_in t) x) (sym (ap (λ z. z.lent) e)) (tells-of (right_trace job) (told_in t) (verdict_of job t) (verdict-says job t))
    page-by (suc why) e = let z : 0 ≡ suc why = ap (λ z. z.number) e in absurd (omega arith)

    by : (x : Bool) → told 0 b' ≡ reading verdict_in (λ none. b) (call (cond x 0 no_state) (check_left job t) nothing) → Tells (right_trace job) (told_in t) b'
    by true e = page-by (first (why_job job) (why_trace t)) e
    by false e = let z : 0 ≡ no_state = ap (λ z. z.number) e in absurd (omega arith)

-- what is left where neither the job nor the trace is refused
call-is : (job t b : List ℕ) → length b ≡ 6 → first (why_job job) (why_trace t) ≡ 0 → check_call job t b ≡ told 0 (verdict_words (verdict_page (verdict_of job t)))
unfolding check_call answer_why
call-is job t b l e = rw (l, e)

number-none : (job t b : List ℕ) → length b ≡ 6 → (check_call job t b).number ≡ 0 → first (why_job job) (why_trace t) ≡ 0
unfolding check_call answer_why
number-none job t b l e = by (first (why_job job) (why_trace t)) (rw l at e)
  where
    by : (why : ℕ) → (reading verdict_in (λ none. b) (call why (left (answered (verdict_page (verdict_of job t))) nothing) nothing)).number ≡ 0 → why ≡ 0
    by zero e = refl
    by (suc why) e = e

pub wd16-accepts : Wd16Accepts
wd16-accepts job t b number b' e taken l bytes = (only, when)
  where
    only : accepts number b' → t ≡ trace_bytes (right_trace job)
    only a =
        let why = number-none job t b l (sym (ap (λ z. z.number) e) ∙ a.0) in
        let page = e ∙ call-is job t b l why in
        let v : verdict_of job t ≡ Accepted = verdict-word (verdict_of job t) (ap (λ z. word_at z 0) (sym (ap (λ z. z.lent) page)) ∙ a.1) in
        let same : right_trace job ≡ told_in t = subst (λ (x : Verdict). Says 0 (right_trace job) (told_in t) x) v (verdict-says job t) in
        bytes_back t bytes (first-both (why_job job) (why_trace t) why).1 ∙ ap trace_bytes (sym same)

    when : t ≡ trace_bytes (right_trace job) → accepts number b'
    when d =
        let none : why_trace t ≡ 0 = ap why_trace d ∙ taken-again (steps_of job) in
        let why : first (why_job job) (why_trace t) ≡ 0 = rw (taken, none) in
        let v : verdict_of job t ≡ Accepted = ap (λ x. compared 0 (right_trace job) (told_in x)) d ∙ ap (λ x. compared 0 (right_trace job) x) (told-again (steps_of job)) ∙ compared-self 0 (right_trace job) in
        let page = e ∙ call-is job t b l why ∙ ap (λ x. told 0 (verdict_words (verdict_page x))) v in
        (ap (λ z. z.number) page, ap (λ z. word_at z.lent 0) page)

-- ---- a call of `check`

-- its verdict; accepted where there is none
abbrev verdict_or : Checked → Verdict
verdict_or (Ok v) = v
verdict_or (Err why) = Accepted

pub check-tells : CheckTells
unfolding check_of
check-tells job t image map lines v image' map' lines' e =
    let h = (call-right (why_check job t (length image) (length map) (length lines)) (left (answered (verdict_page (verdict_of job t))) (buffers_after job)) (image, map, lines) e).1 in
    let same : v ≡ verdict_of job t = ap verdict_or (checked-one (Ok v) (Ok (verdict_of job t)) (ap (λ z. z.page) h)) in
    subst (λ (x : Verdict). Says 0 (right_trace job) (told_in t) x) (sym same) (verdict-says job t)
