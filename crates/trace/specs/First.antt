-- A WRONG TRACE IS TOLD BY ITS FIRST FAULT: the first wrong step and its first wrong field, or the first missing or extra step.
use Rattle.std.specs.Prelude.{ℕ, ◌-◌, ◌<◌, ◌≤◌, List, [], ◌≡◌, length, get_or, take}
use Rattle.trace.specs.declared.Verdict.{Verdict}
use Rattle.trace.specs.declared.Verdict.TheVariants.{Accepted, Wrong, Missing, Extra}

-- ---- fields

-- the fields before place j are the same; there one should stand, and doesn't
pub record AtField (xs ys : List ℕ) (j x : ℕ) : Type 0 where
  pub before : take j xs ≡ take j ys
  pub is : get_or xs j 0 ≡ x
  pub not : get_or ys j 0 ≡ x → ⊥

-- ---- steps

-- the entries before place n are the same; there a field is wrong, the first of its entry
pub record AtStep (rs ts : List (List ℕ)) (n f x : ℕ) : Type 0 where
  pub before : take n rs ≡ take n ts
  pub field : AtField (get_or rs n []) (get_or ts n []) f x

-- one list is the beginning of another, up to place n, and ends there
pub record EndsAt (shorter longer : List (List ℕ)) (n : ℕ) : Type 0 where
  pub all : shorter ≡ take n longer
  pub more : n < length longer

-- what a verdict from a step on says of the right entries and of those that the trace gives
abbrev pub Says : ℕ → List (List ℕ) → List (List ℕ) → Verdict → Type 0
Says step rs ts Accepted = rs ≡ ts
Says step rs ts (Wrong k f x) = (step ≤ k) × AtStep rs ts (k - step) f x
Says step rs ts (Missing k) = (step ≤ k) × EndsAt ts rs (k - step)
Says step rs ts (Extra k) = (step ≤ k) × EndsAt rs ts (k - step)
