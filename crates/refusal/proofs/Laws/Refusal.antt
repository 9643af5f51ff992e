-- Tests over all bytes of the map and over all line words, one by one.
use Rattle.std.proofs.Common.{MatchBool, HoldsAt, sym, ◌≡◌, ℕ, zero, suc, ◌+◌, ◌<◌, ◌≤◌, Bool, true, false, cond, ◌||◌, eqb, leb, List, [], ◌∷◌, length, get_or, take, drop, refl, true≢false, add-one, arith, drop-cons, eqb-true, leb-true}
use Rattle.std.specs.List.{AllWithin}
use lib.Seq.{drop-length}
use Rattle.refusal.specs.Numbers.{image_length, map_length, lines_length}
use Rattle.refusal.proofs.Laws.Page.{first-both}
use Rattle.refusal.specs.Refusal.{all_of, board_refusal, lines_refusal, power_refusal, step_refusal, run_refusal}

-- ---- scans

pub all_more : {A : Type 0} (p : A → Bool) (l : List A) (i : ℕ) (d : A) → i < length l → p (get_or l i d) ≡ true → all_of p (drop (i + 1) l) ≡ all_of p (drop i l)
unfolding all_of
all_more p l i d h e = rw (add-one i, drop-cons l i d h, e)

pub all-fails : {A : Type 0} (p : A → Bool) (l : List A) (i : ℕ) (d : A) → i < length l → p (get_or l i d) ≡ false → all_of p (drop i l) ≡ false
unfolding all_of
all-fails p l i d h e = rw (drop-cons l i d h, e)

pub all_end : {A : Type 0} (p : A → Bool) (l : List A) (i : ℕ) → i ≡ length l → all_of p (drop i l) ≡ true
unfolding all_of
all_end p l i e = rw (e, drop-length l)

pub all_take : {A : Type 0} (p : A → Bool) (n : ℕ) (xs : List A) → all_of p xs ≡ true → all_of p (take n xs) ≡ true
unfolding all_of
all_take p zero xs e = refl
all_take p (suc n) [] e = refl
all_take p (suc n) (x ∷ xs) e = split (p x) (all_take p n xs) e
  where
    split : (b : Bool) → (all_of p xs ≡ true → all_of p (take n xs) ≡ true) → cond b (all_of p xs) false ≡ true → cond b (all_of p (take n xs)) false ≡ true
    split true h e = h e
    split false h e = e

-- ---- the answer of an iterator's `all`

all-within : {A : Type 0} (p : A → Bool) (xs : List A) → AllWithin (λ x. p x ≡ true) xs 0 (length xs) → all_of p xs ≡ true
unfolding all_of
all-within p [] h = refl
all-within p (x ∷ xs) h = rw (h 0 x (omega arith) (omega arith), all-within p xs (λ k d l m. h (suc k) d (omega arith) (omega (arith, m)))) refl

one-not : {A : Type 0} (p : A → Bool) (xs : List A) (k : ℕ) → k < length xs → HoldsAt (λ x. p x ≡ false) xs k → all_of p xs ≡ false
unfolding all_of
one-not p [] k l h = absurd (omega (arith, l))
one-not p (x ∷ xs) zero l h = rw (h x) refl
one-not p (x ∷ xs) (suc k) l h = by (p x) (one-not p xs k (omega (arith, l)) (λ d. h d))
  where
    by : (b : Bool) → all_of p xs ≡ false → cond b (all_of p xs) false ≡ false
    by true e = e
    by false e = refl

pub all-decided : {A : Type 0} (p : A → Bool) (xs : List A) (r : Bool) → MatchBool r (AllWithin (λ x. p x ≡ true) xs 0 (length xs)) ((k : ℕ) × (k < length xs) × HoldsAt (λ x. p x ≡ false) xs k) → r ≡ all_of p xs
all-decided p xs true h = sym (all-within p xs h)
all-decided p xs false h = sym (one-not p xs h.0 h.1 h.2)

-- ---- what is known where nothing is refused

pub record SoundBoard (size : ℕ) (map : List ℕ) : Type 0 where
  pub bytes : size ≡ 65536
  pub pages : length map ≡ 256

-- of two tests that don't refuse, neither does
pub neither : (a b : Bool) → a || b ≡ false → (a ≡ false) × (b ≡ false)
neither true b e = absurd (true≢false e)
neither false b e = (refl, e)

-- a number that is told where a test fails, and isn't told
pub cond-none : (b : Bool) (k : ℕ) → (k ≡ 0 → ⊥) → cond b 0 k ≡ 0 → b ≡ true
cond-none true k n e = refl
cond-none false k n e = absurd (n e)

pub sound : (size : ℕ) (map : List ℕ) → board_refusal size map ≡ 0 → SoundBoard size map
unfolding board_refusal
sound size map e =
    let a = first-both (cond (eqb size 65536) 0 image_length) _ e in
    let b = first-both (cond (eqb (length map) 256) 0 map_length) _ a.1 in
    record {
      bytes = eqb-true _ _ (cond-none (eqb size 65536) image_length (λ h. omega arith) a.0);
      pages = eqb-true _ _ (cond-none (eqb (length map) 256) map_length (λ h. omega arith) b.0);
    }

pub short : (lines : List ℕ) → lines_refusal lines ≡ 0 → length lines ≤ 4096
unfolding lines_refusal
short lines e = leb-true _ _ (cond-none (leb (length lines) 4096) lines_length (λ h. omega arith) (first-both (cond (leb (length lines) 4096) 0 lines_length) _ e).0)

pub power-sound : (size : ℕ) (map : List ℕ) (p h r : ℕ) → power_refusal size map p h r ≡ 0 → SoundBoard size map
unfolding power_refusal
power-sound size map p h r e = sound size map (first-both (board_refusal size map) _ e).0

pub step-sound : (size : ℕ) (map : List ℕ) (p h r line : ℕ) → step_refusal size map p h r line ≡ 0 → SoundBoard size map
unfolding step_refusal
step-sound size map p h r line e = power-sound size map p h r (first-both (power_refusal size map p h r) _ e).0

pub run_sound : (size : ℕ) (map : List ℕ) (p h r : ℕ) (lines : List ℕ) → run_refusal size map p h r lines ≡ 0 → SoundBoard size map × (length lines ≤ 4096)
unfolding run_refusal
run_sound size map p h r lines e =
    let both = first-both (power_refusal size map p h r) (lines_refusal lines) e in
    (power-sound size map p h r both.0, short lines both.1)
