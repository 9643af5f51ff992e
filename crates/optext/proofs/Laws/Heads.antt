-- The row whose mnemonic agrees furthest with a text: no other agrees further, and it is the text's own where the text begins with a mnemonic.
use Rattle.std.proofs.Common.{◌≡◌, ℕ, zero, suc, ◌+◌, ◌<◌, ◌≤◌, Bool, true, false, cond, T, eqb, ltb, List, [], ◌∷◌, ◌++◌, length, get_or, drop, sym, refl, ap, ◌∙◌, ⊎_elim, add-one, arith, ltb-false, ltb-true, le-ltb, lt-ltb, eq-eqb, ne_eqb}
use Rattle.optext.specs.First.{agree, best_below}
use Rattle.optext.specs.Rows.{Row, row_count, word_row, rows, the_row, no_row, name_of, first_of}
use Rattle.optext.specs.Line.{is_shown}
use Rattle.optext.specs.Guess.{head_in, head_of, head_far, row_for}
use Rattle.optext.proofs.Laws.Table.{row-count}
use Rattle.optext.proofs.Laws.Choose.{eq-cases, lt-cases, bool_cases, choose, both, both_left, both_right}
use Rattle.optext.proofs.Laws.Near.{Near}
use Rattle.optext.proofs.Laws.Near.{agree-le, agree-short, agree-whole, agree-through}

-- a place at which a number is greatest
best-le : (f : ℕ → ℕ) (n k : ℕ) → k < n → f k ≤ f (best_below f n)
unfolding best_below
best-le f zero k h = absurd (omega arith)
best-le f (suc n) k h = go (λ l. best-le f n k l) (ltb (f (best_below f n)) (f n)) refl
  where
    go : (k < n → f k ≤ f (best_below f n)) → (b : Bool) → ltb (f (best_below f n)) (f n) ≡ b → f k ≤ f (cond b n (best_below f n))
    go r true e = let l = ltb-true _ (f n) e in ⊎_elim (λ q. rw q (omega arith)) (λ q. let m = r (omega arith) in omega arith) (eq-cases k n)
    go r false e = let l = ltb-false _ (f n) e in ⊎_elim (λ q. rw q l) (λ q. r (omega arith)) (eq-cases k n)

best-lt : (f : ℕ → ℕ) (n : ℕ) → best_below f (suc n) ≤ n
unfolding best_below
best-lt f zero = choose (λ (k : ℕ). k ≤ 0) (ltb (f 0) (f 0)) _ _ (omega arith) (omega arith)
best-lt f (suc n) = choose (λ (k : ℕ). k ≤ suc n) (ltb (f (best_below f (suc n))) (f (suc n))) _ _ (omega arith) (let h = best-lt f n in omega arith)

-- a loop that looks for it
pub best-one : (f : ℕ → ℕ) → 0 ≡ best_below f 1
best-one f = let h = best-lt f 0 in omega arith

pub best-new : (f : ℕ → ℕ) (i b v m c u : ℕ) → b ≡ best_below f i → v ≡ f b → m ≡ f i → v < m → c ≡ i → u ≡ m → (c ≡ best_below f (i + 1)) × (u ≡ f c)
unfolding best_below
best-new f i b v m c u e p q l x y = rw (x, y, add-one i, ← e, lt-ltb (f b) (f i) (omega arith)) (refl, q)

pub best-old : (f : ℕ → ℕ) (i b v m c u : ℕ) → b ≡ best_below f i → v ≡ f b → m ≡ f i → m ≤ v → c ≡ b → u ≡ v → (c ≡ best_below f (i + 1)) × (u ≡ f c)
unfolding best_below
best-old f i b v m c u e p q l x y = rw (x, y, add-one i, ← e, le-ltb (f b) (f i) (omega arith)) (refl, p)

-- a rule of each pair of rows
abbrev all_in : (Row → Bool) → List Row → Bool
all_in f [] = true
all_in f (r ∷ rs) = both (f r) (all_in f rs)

abbrev pub pairs : (Row → Row → Bool) → List Row → Bool
pairs f [] = true
pairs f (r ∷ rs) = both (all_in (f r) rs) (pairs f rs)

all-at : (f : Row → Bool) (rs : List Row) → T (all_in f rs) → (i : ℕ) → i < length rs → T (f (get_or rs i no_row))
all-at f [] t i h = absurd (omega arith)
all-at f (r ∷ rs) t zero h = both_left (f r) (all_in f rs) t
all-at f (r ∷ rs) t (suc i) h = all-at f rs (both_right (f r) (all_in f rs) t) i (omega arith)

pub pairs-at : (f : Row → Row → Bool) (rs : List Row) → T (pairs f rs) → (i j : ℕ) → i < j → j < length rs → T (f (get_or rs i no_row) (get_or rs j no_row))
pairs-at f [] t i j h g = absurd (omega arith)
pairs-at f (r ∷ rs) t i zero h g = absurd (omega arith)
pairs-at f (r ∷ rs) t zero (suc j) h g = all-at (f r) rs (both_left (all_in (f r) rs) (pairs f rs) t) j (omega arith)
pairs-at f (r ∷ rs) t (suc i) (suc j) h g = pairs-at f rs (both_right (all_in (f r) rs) (pairs f rs) t) i j (omega arith) (omega arith)

-- no mnemonic, with the space after it, begins another
abbrev apart : List ℕ → List ℕ → Bool
apart [] q = false
apart (x ∷ p) [] = false
apart (x ∷ p) (y ∷ q) = cond (eqb x y) (apart p q) true

apart-lt : (p q : List ℕ) → T (apart p q) → (agree q p < length p) × (agree p q < length q)
apart-lt [] q t = absurd t
apart-lt (x ∷ p) [] t = absurd t
apart-lt (x ∷ p) (y ∷ q) t = ⊎_elim (same (λ u. apart-lt p q u)) other (eq-cases x y)
  where
    on : (agree q p < length p) × (agree p q < length q) → (suc (agree q p) < suc (length p)) × (suc (agree p q) < suc (length q))
    on h = let a = h.0 in let b = h.1 in (omega arith, omega arith)

    same : (T (apart p q) → (agree q p < length p) × (agree p q < length q)) → x ≡ y → (cond (eqb y x) (suc (agree q p)) 0 < suc (length p)) × (cond (eqb x y) (suc (agree p q)) 0 < suc (length q))
    same r e = rw (eq-eqb x y e, eq-eqb y x (sym e)) (on (r (rw (eq-eqb x y e) at t)))

    other : (x ≡ y → ⊥) → (cond (eqb y x) (suc (agree q p)) 0 < suc (length p)) × (cond (eqb x y) (suc (agree p q)) 0 < suc (length q))
    other n = rw (ne_eqb x y n, ne_eqb y x (λ e. n (sym e))) (omega arith, omega arith)

heads_apart : T (pairs (λ r s. apart (head_in r) (head_in s)) rows)
unfolding rows
heads_apart = tt

pub heads-free : (i j : ℕ) → i < row_count → j < row_count → agree (head_of j) (head_of i) ≡ length (head_of i) → i ≡ j
unfolding head_of the_row
heads-free i j h g e =
    ⊎_elim (λ l. absurd (less (apart-lt (head_of i) (head_of j) (pairs-at (λ r s. apart (head_in r) (head_in s)) rows heads_apart i j l (rw row-count g))).0 e)) (λ l.
    ⊎_elim (λ m. absurd (less (apart-lt (head_of j) (head_of i) (pairs-at (λ r s. apart (head_in r) (head_in s)) rows heads_apart j i m (rw row-count h))).1 e)) (λ m. omega arith) (lt-cases j i)) (lt-cases i j)
  where
    less : {m n : ℕ} → m < n → m ≡ n → ⊥
    less h e = omega arith

pub row_at-lt : (t : List ℕ) → row_for t < row_count
unfolding row_for
row_at-lt t = let h = best-lt (head_far t) word_row in omega arith

-- no mnemonic agrees further with the text
head-far : (t : List ℕ) (k : ℕ) → k < row_count → agree t (head_of k) ≤ agree t (head_of (row_for t))
unfolding row_for
head-far t k h = best-le (head_far t) row_count k h

-- and where the text begins with one, that is it
pub head-own : (t : List ℕ) (k : ℕ) → k < row_count → agree t (head_of k) ≡ length (head_of k) → row_for t ≡ k
head-own t k h e =
    let l = head-far t k h in
    sym (heads-free k (row_for t) h (row_at-lt t) (agree-through t (head_of k) (head_of (row_for t)) e (omega arith)))

pub near-head : (t : List ℕ) (k : ℕ) → k < row_count → Near t (head_of k) (head_of (row_for t))
near-head t k h = record { far = head-far t k h; whole = λ e. ap head_of (head-own t k h e) }

-- what the code finds of a mnemonic and the space after it
module _ (t : List ℕ) (k : ℕ) where
  pub head-none : is_shown (first_of k) ≡ false → head_of k ≡ name_of k
  unfolding head_of
  head-none e = rw e refl

  pub head-some : is_shown (first_of k) ≡ true → head_of k ≡ name_of k ++ (32 ∷ [])
  unfolding head_of
  head-some e = rw e refl

  pub head-short : (i : ℕ) → i ≡ agree t (name_of k) → i < length (name_of k) → i ≡ agree t (head_of k)
  head-short i q l =
      ⊎_elim (λ e. rw (head-none e) q) (λ e. rw (head-some e) (q ∙ sym (agree-short t (name_of k) (32 ∷ []) (rw (← q) l)))) (bool_cases (is_shown (first_of k)))

  pub head-after : (i : ℕ) → i ≡ agree t (name_of k) → length (name_of k) ≤ i → is_shown (first_of k) ≡ true → i + agree (drop i t) (32 ∷ []) ≡ agree t (head_of k)
  head-after i q l e =
      let h = agree-le t (name_of k) in
      let m : length (name_of k) ≡ i = omega arith in
      rw (head-some e) (sym (agree-whole t (name_of k) (32 ∷ []) (sym q ∙ sym m) ∙ rw m refl))
