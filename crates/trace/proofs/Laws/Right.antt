-- A TRACE IS ACCEPTED IF AND ONLY IF IT IS THE MANUAL'S; what is made is accepted; no call has two outcomes.
use Prim.Native.Nat.{ℕ, zero, suc, ◌+◌, ◌<◌}
use mathlib.Core.Bool.{Bool, true, false, cond}
use mathlib.Core.List.{List, [], ◌∷◌}
use mathlib.Core.Path.{◌≡◌, refl, sym, ap, ◌∙◌}
use native.Mathlib.Omega.{arith}
use lib.Dec.{eqb}
use lib.ListN.{length, take}
use lib.Seq.{take-append_seam}
use borrow.Author.Tests.{eqb-true, eq-eqb}
use Rattle.wordbytes.specs.Words.{byte_at}
use Rattle.hexdigits.specs.Over.{in_front_of}
use Rattle.step.specs.Step.{After}
use Rattle.refusal.specs.Page.{answered, left}
use Rattle.std.proofs.Common.{Ok, Err}
use Rattle.refusal.proofs.Laws.Answer.{page-one}
use Rattle.refusal.proofs.Laws.Page.{apart, answered-one, first-both, call-right, one, one-call}
use Rattle.job.specs.Job.{why_read}
use Rattle.trace.specs.declared.Verdict.{Verdict}
use Rattle.trace.specs.declared.Verdict.TheVariants.{Accepted, Wrong, Missing, Extra}
use Rattle.trace.specs.Trace.{Checked, Made, entry_of, entries_of, steps_of, right_trace, trace_bytes, fields_from, entries_from, told_in, why_trace, or_else, first_wrong, compared, verdict_of, VerdictPage, accepted, wrong, missing, extra, verdict_page, checked_page, why_check, buffers_after, check_of, made_page, why_make, made_of, make_of}
use Rattle.trace.proofs.Laws.Bytes.{right-ten, words-length, told-again, taken-again, bytes_back}

-- ---- entries that are the same, and only those, are accepted

differ_self : (step k : ℕ) (xs : List ℕ) → first_wrong step k xs xs ≡ Accepted
unfolding first_wrong
differ_self step k [] = refl
differ_self step k (x ∷ xs) = rw (eq-eqb x x refl) (differ_self step (k + 1) xs)

pub compared-self : (step : ℕ) (es : List (List ℕ)) → compared step es es ≡ Accepted
unfolding compared
compared-self step [] = refl
compared-self step (e ∷ es) = rw (differ_self step 0 e) (compared-self (step + 1) es)

pub differ_same : (step k : ℕ) (xs ys : List ℕ) → length xs ≡ length ys → first_wrong step k xs ys ≡ Accepted → xs ≡ ys
unfolding first_wrong
differ_same step k [] [] l e = refl
differ_same step k [] (y ∷ ys) l e = absurd (omega arith)
differ_same step k (x ∷ xs) [] l e = absurd (omega arith)
differ_same step k (x ∷ xs) (y ∷ ys) l e = split (eqb x y) refl (λ h. differ_same step (k + 1) xs ys (omega arith) h) e
  where
    split : (b : Bool) → eqb x y ≡ b → (first_wrong step (k + 1) xs ys ≡ Accepted → xs ≡ ys) → cond b (first_wrong step (k + 1) xs ys) (Wrong step k x) ≡ Accepted → x ∷ xs ≡ y ∷ ys
    split true h later e = let i = eqb-true x y h in let j = later e in cc
    split false h later e = let z : ◌≡◌ {A = ℕ} 0 1 = cc in absurd (omega arith)

both-accepted : (v w : Verdict) → or_else v w ≡ Accepted → (v ≡ Accepted) × (w ≡ Accepted)
both-accepted Accepted w e = (refl, e)
both-accepted (Wrong step k x) w e = let z : ◌≡◌ {A = ℕ} 0 1 = cc in absurd (omega arith)
both-accepted (Missing step) w e = let z : ◌≡◌ {A = ℕ} 0 1 = cc in absurd (omega arith)
both-accepted (Extra step) w e = let z : ◌≡◌ {A = ℕ} 0 1 = cc in absurd (omega arith)

compared_same : (step : ℕ) (rs : List After) (t : List ℕ) (at n : ℕ) → compared step (entries_of rs) (entries_from t at n) ≡ Accepted → entries_of rs ≡ entries_from t at n
unfolding compared entries_of entries_from
compared_same step [] t at zero e = refl
compared_same step [] t at (suc n) e = let z : ◌≡◌ {A = ℕ} 0 1 = cc in absurd (omega arith)
compared_same step (a ∷ rs) t at zero e = let z : ◌≡◌ {A = ℕ} 0 1 = cc in absurd (omega arith)
compared_same step (a ∷ rs) t at (suc n) e =
    let both = both-accepted (first_wrong step 0 (entry_of a.state) (fields_from t at 10)) _ e in
    let here : entry_of a.state ≡ fields_from t at 10 = differ_same step 0 _ _ (right-ten a.state ∙ sym (words-length t at 10)) both.0 in
    let later = compared_same (step + 1) rs t (at + 20) n both.1 in
    cc

-- ---- the check's verdict

module _ (input t : List ℕ) where
  accepted-right : ((i : ℕ) → byte_at t i < 256) → why_trace t ≡ 0 → verdict_of input t ≡ Accepted → t ≡ trace_bytes (right_trace input)
  unfolding told_in
  accepted-right bytes taken e = bytes_back t bytes taken ∙ ap trace_bytes (sym (compared_same 0 (steps_of input) t 2 _ e))

  right-accepted : t ≡ trace_bytes (right_trace input) → (why_trace t ≡ 0) × (verdict_of input t ≡ Accepted)
  right-accepted e = rw e (taken-again (steps_of input), ap (λ z. compared 0 (right_trace input) z) (told-again (steps_of input)) ∙ compared-self 0 (right_trace input))

-- a verdict, from its page
abbrev verdict_from : VerdictPage → Verdict
verdict_from accepted = Accepted
verdict_from (wrong step field right) = Wrong step field right
verdict_from (missing step) = Missing step
verdict_from (extra step) = Extra step

verdict-back : (v : Verdict) → verdict_from (verdict_page v) ≡ v
verdict-back Accepted = refl
verdict-back (Wrong step field right) = refl
verdict-back (Missing step) = refl
verdict-back (Extra step) = refl

verdict-one : (v w : Verdict) → verdict_page v ≡ verdict_page w → v ≡ w
verdict-one = one verdict_from verdict-back

-- ACCEPTED IF AND ONLY IF IT IS THE MANUAL'S TRACE: of what the check answers to a job that is not refused and a trace of bytes
module _ (input t image map lines : List ℕ) (job : why_read (length image) (length map) (length lines) input ≡ 0) (bytes : (i : ℕ) → byte_at t i < 256)
    (r : Checked) (x : List ℕ × List ℕ × List ℕ) (met : left (checked_page r) x ≡ check_of input t image map lines) where
  pub accepted-only : r ≡ Ok Accepted → t ≡ trace_bytes (right_trace input)
  unfolding check_of
  accepted-only d =
      let h = call-right (why_check input t (length image) (length map) (length lines)) (left (answered (verdict_page (verdict_of input t))) (buffers_after input)) (image, map, lines) (rw d at met) in
      let v : verdict_of input t ≡ Accepted = sym (verdict-one Accepted (verdict_of input t) (answered-one (ap (λ z. z.page) h.1))) in
      accepted-right input t bytes (first-both (why_read (length image) (length map) (length lines) input) (why_trace t) h.0).1 v

  pub accepted-if : t ≡ trace_bytes (right_trace input) → r ≡ Ok Accepted
  unfolding check_of
  accepted-if e =
      let h = right-accepted input t e in
      done r (ap (λ z. z.page) (rw (job, h.0, h.1) at met))
    where
      done : (r : Checked) → checked_page r ≡ answered accepted → r ≡ Ok Accepted
      done (Ok v) e = ap Ok (verdict-one v Accepted (answered-one e))
      done (Err why) e = absurd (apart (sym e))

-- ---- WHAT IS MADE IS ACCEPTED

pub made-accepted : (input out image map lines : List ℕ) (n : ℕ) (out' image' map' lines' : List ℕ)
    → left (made_page (Ok n)) (out', image', map', lines') ≡ make_of input out image map lines
    → (i m l : List ℕ) → length i ≡ length image → length m ≡ length map → length l ≡ length lines
    → (check_of input (take n out') i m l).page ≡ answered accepted
unfolding make_of check_of in_front_of
made-accepted input out image map lines n out' image' map' lines' e i m l hi hm hl =
    let t = trace_bytes (right_trace input) in
    let made = call-right (why_make input (length out) (length image) (length map) (length lines)) (made_of input out) (out, image, map, lines) e in
    let size : n ≡ length t = answered-one (ap (λ z. z.page) made.1) in
    let bytes : out' ≡ in_front_of t out = ap (λ z. z.lent.0) made.1 in
    let same : take n out' ≡ t = rw (size, bytes) (take-append_seam t _) in
    let h = right-accepted input (take n out') same in
    rw (hi, hm, hl, (first-both (why_read (length image) (length map) (length lines) input) _ made.0).0, h.0, h.1)

-- ---- ONE OUTCOME

pub checked-one : (r q : Checked) → checked_page r ≡ checked_page q → r ≡ q
checked-one = page-one verdict-one

pub made_one : (r q : Made) → made_page r ≡ made_page q → r ≡ q
made_one = page-one (λ x y e. e)

pub one-check : (r q : Checked) (x y : List ℕ × List ℕ × List ℕ) → left (checked_page r) x ≡ left (checked_page q) y → (r ≡ q) × (x ≡ y)
one-check = one-call checked_page checked-one

pub one-make : (r q : Made) (x y : List ℕ × List ℕ × List ℕ × List ℕ) → left (made_page r) x ≡ left (made_page q) y → (r ≡ q) × (x ≡ y)
one-make = one-call made_page made_one
