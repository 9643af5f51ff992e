-- The reader as a function: it compares the text with the line of its guess.
use Rattle.std.proofs.Common.{◌≡◌, ℕ, Bool, true, false, cond, ◌&&◌, eqb, List, [], ◌∷◌, sym, refl, eq-eqb, eqb-true}
use Rattle.std.specs.Cmp.Lexicographic.{pointwise}
use Rattle.optext.specs.Read.{same_text}

-- laws of the comparison
pub same_refl : (a : List ℕ) → same_text a a ≡ true
same_refl [] = refl
same_refl (x ∷ xs) = rw (eq-eqb x x refl) (same_refl xs)

pub same-eq : (a b : List ℕ) → same_text a b ≡ true → a ≡ b
same-eq [] [] e = refl
same-eq [] (y ∷ ys) e = cc
same-eq (x ∷ xs) [] e = cc
same-eq (x ∷ xs) (y ∷ ys) e = go (eqb x y) refl (λ q. same-eq xs ys q) e
  where
    go : (t : Bool) → eqb x y ≡ t → (same_text xs ys ≡ true → xs ≡ ys) → cond t (same_text xs ys) false ≡ true → x ∷ xs ≡ y ∷ ys
    go true p r q = rw (eqb-true x y p, r q) refl
    go false p r q = cc

-- what `==` of two texts answers
pub same-pointwise : (a b : List ℕ) → pointwise eqb a b ≡ same_text a b
same-pointwise [] [] = refl
same-pointwise [] (y ∷ ys) = refl
same-pointwise (x ∷ xs) [] = refl
same-pointwise (x ∷ xs) (y ∷ ys) = go (eqb x y) (same-pointwise xs ys)
  where
    go : (t : Bool) → pointwise eqb xs ys ≡ same_text xs ys → (t && pointwise eqb xs ys) ≡ cond t (same_text xs ys) false
    go true e = e
    go false e = refl

-- what a function that tells whether two texts are equal answers
pub same-is : (r : Bool) (a b : List ℕ) → (r ≡ true → a ≡ b) → (a ≡ b → r ≡ true) → r ≡ same_text a b
same-is true a b p q = sym (rw (p refl) (same_refl b))
same-is false a b p q = go (same_text a b) refl
  where
    go : (t : Bool) → same_text a b ≡ t → false ≡ t
    go true e = q (same-eq a b e)
    go false e = refl
