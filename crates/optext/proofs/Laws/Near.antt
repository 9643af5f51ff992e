-- Laws of how far two texts agree, and of the text that agrees furthest with another.
use Rattle.std.proofs.Common.{◌≡◌, ℕ, zero, suc, ◌+◌, ◌<◌, ◌≤◌, Bool, true, false, cond, eqb, ◌⊎◌, List, [], ◌∷◌, ◌++◌, length, get_or, take, drop, sym, refl, ap, ◌∙◌, subst, inl, inr, ⊎_elim, arith, length-append, eq-eqb, eqb-true}
use Rattle.std.specs.List.{prefix_len, zip}
use Rattle.optext.specs.First.{agree}
use Rattle.optext.proofs.Laws.Choose.{lt-cases}

-- q is as near to the text t as p is: it agrees with t as far, and it is p where t begins with p
pub record Near (t p q : List ℕ) : Type 0 where
  pub far : agree t p ≤ agree t q
  pub whole : agree t p ≡ length p → q ≡ p

agree-nil : (t : List ℕ) → agree t [] ≡ 0
agree-nil [] = refl
agree-nil (x ∷ t) = refl

pub agree-le : (t p : List ℕ) → agree t p ≤ length p
agree-le [] p = omega arith
agree-le (x ∷ t) [] = omega arith
agree-le (x ∷ t) (y ∷ p) = go (eqb x y) (agree-le t p)
  where
    go : (b : Bool) → agree t p ≤ length p → cond b (suc (agree t p)) 0 ≤ suc (length p)
    go true h = omega arith
    go false h = omega arith

-- a piece that the text does not have whole: what follows the piece does not matter
pub agree-short : (t p s : List ℕ) → agree t p < length p → agree t (p ++ s) ≡ agree t p
agree-short [] [] s h = absurd (omega arith)
agree-short [] (y ∷ p) s h = refl
agree-short (x ∷ t) [] s h = absurd (omega arith)
agree-short (x ∷ t) (y ∷ p) s h = go (λ k. agree-short t p s k) (eqb x y) h
  where
    go : (agree t p < length p → agree t (p ++ s) ≡ agree t p) → (b : Bool) → cond b (suc (agree t p)) 0 < suc (length p)
        → cond b (suc (agree t (p ++ s))) 0 ≡ cond b (suc (agree t p)) 0
    go r true h = ap suc (r (omega arith))
    go r false h = refl

-- a piece that the text has whole: it goes on after it
pub agree-whole : (t p s : List ℕ) → agree t p ≡ length p → agree t (p ++ s) ≡ length p + agree (drop (length p) t) s
agree-whole t [] s h = omega arith
agree-whole [] (y ∷ p) s h = absurd (omega arith)
agree-whole (x ∷ t) (y ∷ p) s h = go (λ k. agree-whole t p s k) (eqb x y) h
  where
    go : (agree t p ≡ length p → agree t (p ++ s) ≡ length p + agree (drop (length p) t) s) → (b : Bool) → cond b (suc (agree t p)) 0 ≡ suc (length p)
        → cond b (suc (agree t (p ++ s))) 0 ≡ suc (length p) + agree (drop (length p) t) s
    go r true h = let e = r (omega arith) in omega arith
    go r false h = absurd (omega arith)

whole-or : (t p : List ℕ) → (agree t p < length p) ⊎ (agree t p ≡ length p)
whole-or t p = let l = agree-le t p in ⊎_elim (λ h. inl h) (λ h. inr (omega arith)) (lt-cases (agree t p) (length p))

agree-more : (t p s : List ℕ) → agree t p ≤ agree t (p ++ s)
agree-more t p s =
    ⊎_elim (λ e. let q = agree-short t p s e in omega arith) (λ e. let q = agree-whole t p s e in omega arith) (whole-or t p)

-- a text has its own beginning whole
pub agree-self : (p s : List ℕ) → agree (p ++ s) p ≡ length p
agree-self [] [] = refl
agree-self [] (x ∷ s) = refl
agree-self (x ∷ p) s = rw (eq-eqb x x refl) (ap suc (agree-self p s))

-- p is whole in t, and q agrees with t as far: then p is whole in q
pub agree-through : (t p q : List ℕ) → agree t p ≡ length p → length p ≤ agree t q → agree q p ≡ length p
agree-through t [] [] h g = refl
agree-through t [] (z ∷ q) h g = refl
agree-through [] (y ∷ p) q h g = absurd (omega arith)
agree-through (x ∷ t) (y ∷ p) [] h g = absurd (omega arith)
agree-through (x ∷ t) (y ∷ p) (z ∷ q) h g = go (λ k l. agree-through t p q k l) (eqb x y) (eqb x z) refl refl h g
  where
    go : (agree t p ≡ length p → length p ≤ agree t q → agree q p ≡ length p) → (b c : Bool) → eqb x y ≡ b → eqb x z ≡ c
        → cond b (suc (agree t p)) 0 ≡ suc (length p) → suc (length p) ≤ cond c (suc (agree t q)) 0
        → cond (eqb z y) (suc (agree q p)) 0 ≡ suc (length p)
    go r true true e f h g =
        let a : z ≡ y = sym (eqb-true x z f) ∙ eqb-true x y e in
        rw (eq-eqb z y a) (ap suc (r (omega arith) (omega arith)))
    go r true false e f h g = absurd (omega arith)
    go r false true e f h g = absurd (omega arith)
    go r false false e f h g = absurd (omega arith)

pub whole_split : (t p : List ℕ) → agree t p ≡ length p → t ≡ p ++ drop (length p) t
whole_split t [] e = refl
whole_split [] (y ∷ p) e = absurd (omega arith)
whole_split (x ∷ t) (y ∷ p) e = go (λ k. whole_split t p k) (eqb x y) refl e
  where
    go : (agree t p ≡ length p → t ≡ p ++ drop (length p) t) → (b : Bool) → eqb x y ≡ b → cond b (suc (agree t p)) 0 ≡ suc (length p) → x ∷ t ≡ y ∷ (p ++ drop (length p) t)
    go r true q h = ap (λ (z : ℕ). z ∷ t) (eqb-true x y q) ∙ ap (λ (l : List ℕ). y ∷ l) (r (omega arith))
    go r false q h = absurd (omega arith)

pub agree-le-text : (t p : List ℕ) → agree t p ≤ length t
agree-le-text [] p = omega arith
agree-le-text (x ∷ t) [] = omega arith
agree-le-text (x ∷ t) (y ∷ p) = go (eqb x y) (agree-le-text t p)
  where
    go : (b : Bool) → agree t p ≤ length t → cond b (suc (agree t p)) 0 ≤ suc (length t)
    go true h = omega arith
    go false h = omega arith

-- as far as they agree, they are the same; and as far as they are the same, they agree
pub agree-take : (t p : List ℕ) → take (agree t p) p ≡ take (agree t p) t
agree-take [] p = refl
agree-take (x ∷ t) [] = refl
agree-take (x ∷ t) (y ∷ p) = go (eqb x y) refl (agree-take t p)
  where
    go : (b : Bool) → eqb x y ≡ b → take (agree t p) p ≡ take (agree t p) t → take (cond b (suc (agree t p)) 0) (y ∷ p) ≡ take (cond b (suc (agree t p)) 0) (x ∷ t)
    go true e r = ap (λ (z : ℕ). z ∷ take (agree t p) p) (sym (eqb-true x y e)) ∙ ap (λ (l : List ℕ). x ∷ l) r
    go false e r = refl

pub take-agree : (c : ℕ) (t p : List ℕ) → c ≤ length t → take c p ≡ take c t → c ≤ agree t p
take-agree zero t p h e = omega arith
take-agree (suc c) [] p h e = absurd (omega arith)
take-agree (suc c) (x ∷ t) [] h e = absurd (let z : 0 ≡ suc (length (take c t)) = ap length e in omega arith)
take-agree (suc c) (x ∷ t) (y ∷ p) h e =
    let q : y ≡ x = ap (λ (l : List ℕ). get_or l 0 0) e in
    rw (eq-eqb x y (sym q)) (let r = take-agree c t p (omega arith) (ap (λ (l : List ℕ). drop 1 l) e) in omega arith)

-- as far as the pairs of their bytes are pairs of one byte
pub agree-pairs : (t p : List ℕ) → prefix_len (λ (x : ℕ × ℕ). eqb x.0 x.1) (zip t p) ≡ agree t p
agree-pairs [] p = refl
agree-pairs (x ∷ t) [] = refl
agree-pairs (x ∷ t) (y ∷ p) = go (eqb x y) (agree-pairs t p)
  where
    go : (b : Bool) → prefix_len (λ (x : ℕ × ℕ). eqb x.0 x.1) (zip t p) ≡ agree t p → cond b (1 + prefix_len (λ (x : ℕ × ℕ). eqb x.0 x.1) (zip t p)) 0 ≡ cond b (suc (agree t p)) 0
    go true e = omega (arith, e)
    go false e = refl

pub near-nil : (t : List ℕ) → Near t [] []
near-nil t = record { far = omega arith; whole = λ e. refl }

-- only a text that begins as p does matters
near_first : (t : List ℕ) (a : ℕ) (s q : List ℕ) → ((u : List ℕ) → t ≡ a ∷ u → Near t (a ∷ s) q) → Near t (a ∷ s) q
near_first [] a s q h = record { far = omega arith; whole = λ e. absurd (omega arith) }
near_first (x ∷ t) a s q h = go (eqb x a) refl
  where
    none : cond (eqb x a) (suc (agree t s)) 0 ≡ 0 → Near (x ∷ t) (a ∷ s) q
    none e = record { far = omega arith; whole = λ w. absurd (omega arith) }

    go : (b : Bool) → eqb x a ≡ b → Near (x ∷ t) (a ∷ s) q
    go true e = h t (ap (λ (z : ℕ). z ∷ t) (eqb-true x a e))
    go false e = none (rw e refl)

-- a character, and what follows it
pub near_next : (u : List ℕ) (a : ℕ) (s r : List ℕ) → Near u s r → Near (a ∷ u) (a ∷ s) (a ∷ r)
near_next u a s r n = record {
  far = rw (eq-eqb a a refl) (let f = n.far in omega arith);
  whole = λ e. ap (λ (l : List ℕ). a ∷ l) (n.whole (same (rw (eq-eqb a a refl) at e)));
}
  where
    same : suc (agree u s) ≡ suc (length s) → agree u s ≡ length s
    same e = omega arith

-- a piece, and what follows it
pub near-seq : (t p s q r : List ℕ) → Near t p q → (agree t p ≡ length p → q ≡ p → Near (drop (length p) t) s r) → Near t (p ++ s) (q ++ r)
near-seq t p s q r n h = ⊎_elim short long (whole-or t p)
  where
    short : agree t p < length p → Near t (p ++ s) (q ++ r)
    short l = record {
      far = let e = agree-short t p s l in let f = n.far in let m = agree-more t q r in omega arith;
      whole = λ w. absurd (let e = agree-short t p s l in let k : length (p ++ s) ≡ length p + length s = length-append p s in omega arith);
    }

    on : agree t p ≡ length p → Near (drop (length p) t) s r → Near t (p ++ s) (p ++ r)
    on e m = record {
      far = let a = agree-whole t p s e in let b = agree-whole t p r e in let f = m.far in omega arith;
      whole = λ w. ap (λ (l : List ℕ). p ++ l) (m.whole (let a = agree-whole t p s e in let k : length (p ++ s) ≡ length p + length s = length-append p s in omega arith));
    }

    long : agree t p ≡ length p → Near t (p ++ s) (q ++ r)
    long e = let z = n.whole e in subst (λ (l : List ℕ). Near t (p ++ s) (l ++ r)) (sym z) (on e (h e z))

pub near-refl : (t p : List ℕ) → Near t p p
near-refl t p = record { far = omega arith; whole = λ e. refl }

-- the same where the nearer text is made from t
pub near-at : (t : List ℕ) (a : ℕ) (s : List ℕ) (q : List ℕ → List ℕ) → ((u : List ℕ) → Near (a ∷ u) (a ∷ s) (q (a ∷ u))) → Near t (a ∷ s) (q t)
near-at t a s q h = near_first t a s (q t) (λ u e. subst (λ (l : List ℕ). Near l (a ∷ s) (q l)) (sym e) (h u))

pub near-off : (t p q : List ℕ) → 0 < length p → (get_or t 0 0 ≡ get_or p 0 0 → Near t p q) → Near t p q
near-off t [] q l h = absurd (omega arith)
near-off t (a ∷ p) q l h = near_first t a p q (λ u e. h (ap (λ (l : List ℕ). get_or l 0 0) e))
