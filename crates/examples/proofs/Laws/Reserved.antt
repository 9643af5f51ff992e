-- The theorems that specs/Reserved.antt states.
use Prim.Native.Nat.{ℕ, zero, suc, ◌/◌, ◌<◌}
use native.Mathlib.Omega.{arith}
use mathlib.Core.Bool.{Bool, true, false, cond}
use mathlib.Core.Logic.{◌⊎◌, ⊎_elim, inl, inr}
use mathlib.Core.Path.{◌≡◌, refl, sym, subst}
use lib.Dec.{T, eqb, leb}
use borrow.Author.Tests.{eqb-true, eqb-false}
use Rattle.plate.specs.Plate.{format_of}
use Rattle.optext.specs.Line.{is_reserved}
use Rattle.step.specs.Xct.{traps_alone}
use Rattle.examples.specs.Table.{TrapsReserved}

-- one test over all high bytes: format 11 begins at F0
abbrev same : Bool → Bool → Bool
same true b = b
same false b = cond b false true

abbrev same_below : ℕ → Bool
same_below zero = true
same_below (suc h) = cond (same (eqb (format_of h) 11) (leb 240 h)) (same_below h) false

all-bytes : T (same_below 256)
unfolding format_of
all-bytes = tt

same-is : (a b : Bool) → T (same a b) → a ≡ b
same-is true true t = refl
same-is true false t = absurd t
same-is false true t = absurd t
same-is false false t = refl

high-11 : (n : ℕ) → T (same_below n) → (h : ℕ) → h < n → eqb (format_of h) 11 ≡ leb 240 h
high-11 zero t h l = absurd (omega arith)
high-11 (suc n) t h l = go (same (eqb (format_of n) 11) (leb 240 n)) refl t (λ u k. high-11 n u h k)
  where
    last : (h ≡ n) ⊎ (h ≡ n → ⊥)
    last = pick (eqb h n) refl
      where
        pick : (b : Bool) → eqb h n ≡ b → (h ≡ n) ⊎ (h ≡ n → ⊥)
        pick true e = inl (eqb-true h n e)
        pick false e = inr (eqb-false h n e)

    go : (b : Bool) → same (eqb (format_of n) 11) (leb 240 n) ≡ b → T (cond b (same_below n) false) → (T (same_below n) → h < n → eqb (format_of h) 11 ≡ leb 240 h) → eqb (format_of h) 11 ≡ leb 240 h
    go true e u r =
        ⊎_elim (λ q. subst (λ (m : ℕ). eqb (format_of m) 11 ≡ leb 240 m) (sym q) (same-is (eqb (format_of n) 11) (leb 240 n) (subst (λ (b : Bool). T b) (sym e) tt)))
        (λ q. r u (omega arith)) last
    go false e u r = absurd u

pub traps-reserved : TrapsReserved
unfolding traps_alone is_reserved
traps-reserved out w l = rw (high-11 256 all-bytes (w / 256) (omega arith)) refl
