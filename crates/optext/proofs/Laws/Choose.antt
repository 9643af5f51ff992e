-- Laws of choices: two numbers compared, a test over all numbers below one, and the first place that passes a test.
use Rattle.std.proofs.Common.{◌≡◌, ℕ, zero, suc, ◌+◌, ◌-◌, ◌<◌, ◌≤◌, Bool, true, false, cond, T, eqb, ltb, ◌⊎◌, sym, refl, ap, ◌∙◌, subst, inl, inr, ⊎_elim, add-one, arith, ltb-false, ltb-true, eqb-true}
use borrow.Author.Tests.{eqb-false}
use Rattle.optext.specs.First.{first_from}

pub eq-cases : (a b : ℕ) → (a ≡ b) ⊎ (a ≡ b → ⊥)
eq-cases a b = go (eqb a b) refl
  where
    go : (t : Bool) → eqb a b ≡ t → (a ≡ b) ⊎ (a ≡ b → ⊥)
    go true e = inl (eqb-true a b e)
    go false e = inr (eqb-false a b e)

pub lt-cases : (a b : ℕ) → (a < b) ⊎ (b ≤ a)
lt-cases a b = go (ltb a b) refl
  where
    go : (t : Bool) → ltb a b ≡ t → (a < b) ⊎ (b ≤ a)
    go true e = inl (ltb-true a b e)
    go false e = inr (ltb-false a b e)

pub no : true ≡ false → ⊥
no e =
    let z : ◌≡◌ {A = ℕ} 0 1 = ap (λ (b : Bool). cond b 0 1) e in
    omega arith

pub bool_cases : (b : Bool) → (b ≡ false) ⊎ (b ≡ true)
bool_cases true = inr refl
bool_cases false = inl refl

-- what holds of both holds of either
pub choose : {A : Type 0} (P : A → Type 0) (b : Bool) (x y : A) → P x → P y → P (cond b x y)
choose P true x y p q = p
choose P false x y p q = q

-- a rule of a table, proved at all of its places by one test that antt computes
abbrev pub both : Bool → Bool → Bool
both true b = b
both false b = false

pub both_left : (a b : Bool) → T (both a b) → T a
both_left true b t = tt
both_left false b t = t

pub both_right : (a b : Bool) → T (both a b) → T b
both_right true b t = t
both_right false b t = absurd t

abbrev pub either : Bool → Bool → Bool
either true b = true
either false b = b

pub either-elim : (a b : Bool) (P : Type 0) → (T a → P) → (T b → P) → T (either a b) → P
either-elim true b P f g t = f tt
either-elim false b P f g t = g t

abbrev pub all_below : (ℕ → Bool) → ℕ → Bool
all_below f zero = true
all_below f (suc n) = both (f n) (all_below f n)

pub at : (f : ℕ → Bool) (n : ℕ) → T (all_below f n) → (k : ℕ) → k < n → T (f k)
at f zero t k h = absurd (omega arith)
at f (suc n) t k h =
    ⊎_elim (λ e. subst (λ (m : ℕ). T (f m)) (sym e) (both_left (f n) (all_below f n) t))
    (λ e. at f n (both_right (f n) (all_below f n) t) k (omega arith)) (eq-cases k n)

-- the first place that passes a test
first-here : (f : ℕ → Bool) (n i : ℕ) → f i ≡ true → first_from f (suc n) i ≡ i
first-here f n i e = rw e refl

first_step : (f : ℕ → Bool) (n i : ℕ) → f i ≡ false → first_from f (suc n) i ≡ first_from f n (suc i)
first_step f n i e = rw e refl

pub first-le : (f : ℕ → Bool) (n i : ℕ) → first_from f n i ≤ i + n
first-le f zero i = omega arith
first-le f (suc n) i = go (f i) (first-le f n (suc i))
  where
    go : (b : Bool) → first_from f n (suc i) ≤ suc i + n → cond b i (first_from f n (suc i)) ≤ i + suc n
    go true h = omega arith
    go false h = omega arith

pub first-hit : (f : ℕ → Bool) (n i : ℕ) → first_from f n i < i + n → f (first_from f n i) ≡ true
first-hit f zero i h = absurd (omega arith)
first-hit f (suc n) i h = go (f i) refl (λ k. first-hit f n (suc i) k) h
  where
    go : (b : Bool) → f i ≡ b → (first_from f n (suc i) < suc i + n → f (first_from f n (suc i)) ≡ true) → cond b i (first_from f n (suc i)) < i + suc n
        → f (cond b i (first_from f n (suc i))) ≡ true
    go true e r h = e
    go false e r h = r (omega arith)

-- a place that passes is not passed over
pub first-at : (f : ℕ → Bool) (n i k : ℕ) → i ≤ k → k < i + n → f k ≡ true → first_from f n i ≤ k
first-at f zero i k l h e = absurd (omega arith)
first-at f (suc n) i k l h e =
    ⊎_elim (λ q. here (subst (λ (j : ℕ). f j ≡ true) (sym q) e)) (λ q. go (f i) (first-at f n (suc i) k (omega arith) (omega arith) e)) (eq-cases i k)
  where
    here : f i ≡ true → cond (f i) i (first_from f n (suc i)) ≤ k
    here p = rw p l

    go : (b : Bool) → first_from f n (suc i) ≤ k → cond b i (first_from f n (suc i)) ≤ k
    go true r = l
    go false r = r

-- a loop that looks for it: r is what is left to find from i on
pub first_found : (f : ℕ → Bool) (n i r : ℕ) → r ≡ first_from f (n - i) i → i < n → f i ≡ true → i ≡ r
first_found f n i r e h t =
    let m : n - i ≡ suc (n - suc i) = omega arith in
    sym (e ∙ rw m (first-here f (n - suc i) i t))

pub first_next : (f : ℕ → Bool) (n i r : ℕ) → r ≡ first_from f (n - i) i → i < n → f i ≡ false → r ≡ first_from f (n - (i + 1)) (i + 1)
first_next f n i r e h t =
    let m : n - i ≡ suc (n - suc i) = omega arith in
    e ∙ rw (m, add-one i) (first_step f (n - suc i) i t)

pub first-end : (f : ℕ → Bool) (n i r : ℕ) → r ≡ first_from f (n - i) i → n ≤ i → i ≡ r
first-end f n i r e h =
    let m : n - i ≡ 0 = omega arith in
    sym (e ∙ rw m refl)
