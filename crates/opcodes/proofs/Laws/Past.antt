-- The last arm of every decoder: a number that none of the arms 0 to n - 1 took is at least n. Past a table's end stands its default; where that is the last row, it stands from that row on.
use Prim.Native.Nat.{ℕ, zero, suc, ◌≤◌, ◌<◌}
use mathlib.Core.List.{List, [], ◌∷◌}
use mathlib.Core.Path.{◌≡◌, refl, sym, subst}
use native.Mathlib.Omega.{arith}
use native.Mathlib.Decide.{ℕ_discrete}
use lib.ListN.{length, get_or, get_or-eq_default}

-- what a match on numbers knows of k in its last arm
abbrev pub Untaken : ℕ → ℕ → Type 0
Untaken zero k = Unit {0}
Untaken (suc n) k = Untaken n k × (k ≡ n → ⊥)

pub at_least : (n k : ℕ) → Untaken n k → n ≤ k
at_least zero k u = omega arith
at_least (suc n) k u = next n k (at_least n k u.0) u.1
  where
    next : (n k : ℕ) → n ≤ k → (k ≡ n → ⊥) → suc n ≤ k
    next n k h e = omega (arith, e)

pub past : {A : Type 0} (l : List A) (d : A) (k : ℕ) → Untaken (length l) k → d ≡ get_or l k d
past l d k u = sym (get_or-eq_default l d {n = k} (at_least (length l) k u))

-- the number of the rows above the last, and the last
abbrev pub above : {A : Type 0} → List A → ℕ
above [] = 0
above (x ∷ l) = length l

abbrev pub last_row : {A : Type 0} → A → List A → A
last_row d [] = d
last_row d (x ∷ []) = x
last_row d (x ∷ y ∷ l) = last_row d (y ∷ l)

pub from_last : {A : Type 0} (l : List A) (d : A) (k : ℕ) → last_row d l ≡ d → above l ≤ k → get_or l k d ≡ d
from_last [] d k e h = refl
from_last (x ∷ []) d zero e h = e
from_last (x ∷ []) d (suc k) e h = refl
from_last (x ∷ y ∷ l) d zero e h = absurd (omega arith)
from_last (x ∷ y ∷ l) d (suc k) e h = from_last (y ∷ l) d k e (omega arith)

pub last : {A : Type 0} (l : List A) (d : A) (k : ℕ) → last_row d l ≡ d → Untaken (above l) k → d ≡ get_or l k d
last l d k e u = sym (from_last l d k e (at_least (above l) k u))

-- a claim of each number below n
unfoldable pub Below : (ℕ → Type 0) → ℕ → Type 0
Below P zero = Unit {0}
Below P (suc n) = Below P n × P n

pub below : (P : ℕ → Type 0) (n : ℕ) → Below P n → (k : ℕ) → k < n → P k
unfolding Below
below P zero b k h = absurd (omega arith)
below P (suc n) b k h = elim (ℕ_discrete k n) [ yes e ↦ subst P (sym e) b.1 | no d ↦ below P n b.0 k (omega arith) ]
