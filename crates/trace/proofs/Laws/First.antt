-- A WRONG TRACE IS TOLD BY ITS FIRST FAULT: the first wrong step and its first wrong field, or the first missing or extra step.
use Prim.Native.Nat.{ℕ, zero, suc, ◌+◌, ◌-◌, ◌≤◌}
use mathlib.Core.Bool.{Bool, true, false, cond}
use mathlib.Core.List.{List, [], ◌∷◌}
use mathlib.Core.Path.{◌≡◌, refl, sym, subst, ◌∙◌}
use native.Mathlib.Nat.{sub-zero}
use native.Mathlib.Omega.{arith}
use lib.Dec.{eqb}
use lib.ListN.{length}
use borrow.Author.Tests.{eqb-true, eqb-false}
use Rattle.step.specs.Step.{After}
use Rattle.trace.specs.declared.Verdict.{Verdict}
use Rattle.trace.specs.declared.Verdict.TheVariants.{Accepted, Wrong, Missing, Extra}
use Rattle.trace.specs.Trace.{entry_of, entries_of, steps_of, right_trace, fields_from, entries_from, told_in, or_else, first_wrong, compared, verdict_of}
use Rattle.trace.proofs.Laws.Bytes.{right-ten, words-length}
use Rattle.trace.proofs.Laws.Right.{differ_same}
use Rattle.trace.specs.First.{AtField, AtStep, EndsAt, Says}

-- ---- fields

field-later : (a b : ℕ) (xs ys : List ℕ) (j x : ℕ) → a ≡ b → AtField xs ys j x → AtField (a ∷ xs) (b ∷ ys) (suc j) x
field-later a b xs ys j x e h = let d = h.before in record { before = cc; is = h.is; not = h.not }

differ-wrong : (step k : ℕ) (xs ys : List ℕ) (a f x : ℕ) → first_wrong step k xs ys ≡ Wrong a f x → (a ≡ step) × (k ≤ f) × AtField xs ys (f - k) x
unfolding first_wrong
differ-wrong step k [] ys a f x e = let z : ◌≡◌ {A = ℕ} 0 1 = cc in absurd (omega arith)
differ-wrong step k (v ∷ xs) [] a f x e = let z : ◌≡◌ {A = ℕ} 0 1 = cc in absurd (omega arith)
differ-wrong step k (v ∷ xs) (w ∷ ys) a f x e = split (eqb v w) refl (λ d. differ-wrong step (k + 1) xs ys a f x d) e
  where
    split : (b : Bool) → eqb v w ≡ b → (first_wrong step (k + 1) xs ys ≡ Wrong a f x → (a ≡ step) × (k + 1 ≤ f) × AtField xs ys (f - (k + 1)) x)
        → cond b (first_wrong step (k + 1) xs ys) (Wrong step k v) ≡ Wrong a f x → (a ≡ step) × (k ≤ f) × AtField (v ∷ xs) (w ∷ ys) (f - k) x
    split true h later e =
        let r = later e in
        let least : k + 1 ≤ f = r.1 in
        let next : f - k ≡ suc (f - (k + 1)) = omega arith in
        (r.0, omega arith, rw next (field-later v w xs ys (f - (k + 1)) x (eqb-true v w h) r.2))
    split false h later e =
        let same : step ≡ a = cc in
        let place : k ≡ f = cc in
        let value : v ≡ x = cc in
        let none : f - k ≡ 0 = omega arith in
        (sym same, omega arith, rw none (record { before = refl; is = value; not = λ d. eqb-false v w h (value ∙ sym d) }))

abbrev Fieldwise : Verdict → Type 0
Fieldwise Accepted = Unit {0}
Fieldwise (Wrong step k x) = Unit {0}
Fieldwise (Missing step) = ⊥
Fieldwise (Extra step) = ⊥

-- fields alone are neither missing nor extra
differ-field : (step k : ℕ) (xs ys : List ℕ) → Fieldwise (first_wrong step k xs ys)
unfolding first_wrong
differ-field step k [] ys = tt
differ-field step k (v ∷ xs) [] = tt
differ-field step k (v ∷ xs) (w ∷ ys) = split (eqb v w) (differ-field step (k + 1) xs ys)
  where
    split : (b : Bool) → Fieldwise (first_wrong step (k + 1) xs ys) → Fieldwise (cond b (first_wrong step (k + 1) xs ys) (Wrong step k v))
    split true h = h
    split false h = tt

-- ---- steps

step-later : (r e : List ℕ) (rs ts : List (List ℕ)) (n f x : ℕ) → r ≡ e → AtStep rs ts n f x → AtStep (r ∷ rs) (e ∷ ts) (suc n) f x
step-later r e rs ts n f x d h = let b = h.before in record { before = cc; field = h.field }

ends-later : (r e : List ℕ) (rs ts : List (List ℕ)) (n : ℕ) → r ≡ e → EndsAt rs ts n → EndsAt (r ∷ rs) (e ∷ ts) (suc n)
ends-later r e rs ts n d h = let a = h.all in let m = h.more in record { all = cc; more = omega arith }

says-later : (step : ℕ) (r e : List ℕ) (rs ts : List (List ℕ)) (v : Verdict) → r ≡ e → Says (step + 1) rs ts v → Says step (r ∷ rs) (e ∷ ts) v
says-later step r e rs ts Accepted d h = cc
says-later step r e rs ts (Wrong k f x) d h =
    let least : step + 1 ≤ k = h.0 in
    let next : k - step ≡ suc (k - (step + 1)) = omega arith in
    (omega arith, rw next (step-later r e rs ts (k - (step + 1)) f x d h.1))
says-later step r e rs ts (Missing k) d h =
    let least : step + 1 ≤ k = h.0 in
    let next : k - step ≡ suc (k - (step + 1)) = omega arith in
    (omega arith, rw next (ends-later e r ts rs (k - (step + 1)) (sym d) h.1))
says-later step r e rs ts (Extra k) d h =
    let least : step + 1 ≤ k = h.0 in
    let next : k - step ≡ suc (k - (step + 1)) = omega arith in
    (omega arith, rw next (ends-later r e rs ts (k - (step + 1)) d h.1))

-- a step whose entry is told: right, or wrong at a field
says_here : (step : ℕ) (r e : List ℕ) (rs ts : List (List ℕ)) (v later : Verdict) → length r ≡ length e → first_wrong step 0 r e ≡ v → Says (step + 1) rs ts later → Says step (r ∷ rs) (e ∷ ts) (or_else v later)
says_here step r e rs ts Accepted later l d h = says-later step r e rs ts later (differ_same step 0 r e l d) h
says_here step r e rs ts (Wrong k f x) later l d h =
    let w = differ-wrong step 0 r e k f x d in
    let same : k ≡ step = w.0 in
    let none : k - step ≡ 0 = omega arith in
    let field : AtField r e f x = rw (sub-zero f) at w.2 in
    (omega arith, rw none (record { before = refl; field = field }))
says_here step r e rs ts (Missing k) later l d h = absurd (subst Fieldwise d (differ-field step 0 r e))
says_here step r e rs ts (Extra k) later l d h = absurd (subst Fieldwise d (differ-field step 0 r e))

compared-says : (step : ℕ) (rs : List After) (t : List ℕ) (at n : ℕ) → Says step (entries_of rs) (entries_from t at n) (compared step (entries_of rs) (entries_from t at n))
unfolding compared entries_of entries_from
compared-says step [] t at zero = refl
compared-says step [] t at (suc n) = let none : step - step ≡ 0 = omega arith in (omega arith, rw none (record { all = refl; more = omega arith }))
compared-says step (a ∷ rs) t at zero = let none : step - step ≡ 0 = omega arith in (omega arith, rw none (record { all = refl; more = omega arith }))
compared-says step (a ∷ rs) t at (suc n) =
    says_here step (entry_of a.state) (fields_from t at 10) (entries_of rs) (entries_from t (at + 20) n) (first_wrong step 0 (entry_of a.state) (fields_from t at 10)) (compared (step + 1) (entries_of rs) (entries_from t (at + 20) n))
    (right-ten a.state ∙ sym (words-length t at 10)) refl (compared-says (step + 1) rs t (at + 20) n)

-- THE VERDICT SAYS WHAT IS SO: the entries are the same; or the told step and field are the first that differ; or the told step is the first missing or extra one
pub verdict-says : (input t : List ℕ) → Says 0 (right_trace input) (told_in t) (verdict_of input t)
unfolding told_in
verdict-says input t = compared-says 0 (steps_of input) t 2 _
