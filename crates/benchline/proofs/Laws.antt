-- Laws of the line's lengths.
pub mod Lengths
pub mod Printed
use mathlib.Core.Path.{◌≡◌, refl, ap, ◌∙◌}
use mathlib.Core.Bool.{Bool, true, false, cond}
use mathlib.Core.List.{List, [], ◌∷◌}
use Prim.Native.Nat.{ℕ, ◌+◌, ◌/◌, ◌%◌, ◌≤◌, ◌<◌}
use native.Mathlib.Omega.{arith}
use borrow.Author.Tests.{lt-ltb, le-ltb}
use lib.Dec.{ltb}
use lib.ListN.{length, length-append}
use Rattle.hexdigits.specs.Digits.{hex4}
use Rattle.std.proofs.Common.{Option, Some, None}
use Rattle.benchline.proofs.Laws.Lengths.{field-length, fields-length}
use Rattle.benchline.specs.Line.{mode_digit, place_text, first_text, line_text, name, decimal, refused_text}

-- the lengths of the line's parts
pub mode-length : (mode : ℕ) → length (mode_digit mode) ≡ 2
unfolding mode_digit
mode-length mode = refl

pub place-length : (place : Option ℕ) → length (place_text place) ≡ 4
unfolding place_text hex4
place-length (Some x) = refl
place-length None = refl

pub first-length : (place address : Option ℕ) → length (first_text place address) ≡ 9
unfolding first_text
first-length place address = simp length-append (omega (arith, place-length place, place-length address))

pub line-length : (regs : List ℕ) (ps mode blanks : ℕ) (place address : Option ℕ) → length (line_text regs ps mode blanks place address) ≡ 61
unfolding line_text
line-length regs ps mode blanks place address =
    simp length-append
    (omega (arith, fields-length regs 8, field-length (ps % 16384), mode-length mode, field-length blanks, first-length place address))

-- a number's decimal digits
pub one-digit : (n : ℕ) → n < 10 → decimal n ≡ (48 + n) ∷ []
unfolding decimal
one-digit n h = simp (lt-ltb n 10 h)

pub two_digits : (n : ℕ) → 10 ≤ n → n < 100 → decimal n ≡ (48 + n / 10) ∷ (48 + n % 10) ∷ []
unfolding decimal
two_digits n g h = simp (le-ltb n 10 g, lt-ltb n 100 h)

pub three-digits : (n : ℕ) → 100 ≤ n → decimal n ≡ (48 + n / 100) ∷ (48 + n / 10 % 10) ∷ (48 + n % 10) ∷ []
unfolding decimal
three-digits n h = let g : 10 ≤ n = omega arith in simp (le-ltb n 10 g, le-ltb n 100 h)

pub name-length : length name ≡ 8
unfolding name
name-length = refl

pub refused-length : (n : ℕ) → length (refused_text n) ≡ 8 + length (decimal n)
unfolding refused_text
refused-length n = length-append name (decimal n) ∙ ap (λ (k : ℕ). k + length (decimal n)) name-length

pub digits-few : (n : ℕ) → length (decimal n) ≤ 3
unfolding decimal
digits-few n = few (ltb n 10) (ltb n 100)
  where
    few : (a b : Bool) → length (cond a ((48 + n) ∷ []) (cond b ((48 + n / 10) ∷ (48 + n % 10) ∷ []) ((48 + n / 100) ∷ (48 + n / 10 % 10) ∷ (48 + n % 10) ∷ []))) ≤ 3
    few true b = omega arith
    few false true = omega arith
    few false false = omega arith
