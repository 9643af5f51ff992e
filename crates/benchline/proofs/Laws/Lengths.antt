-- How long fields are, and one field more.
use Prim.Native.Nat.{ℕ, zero, suc, ◌+◌, ◌*◌}
use mathlib.Core.List.{List, ◌++◌}
use mathlib.Core.Path.{◌≡◌, refl, ◌∙◌}
use native.Mathlib.Numerals.{add-one}
use native.Mathlib.Omega.{arith}
use lib.ListN.{length, get_or, length-append}
use Rattle.hexdigits.specs.Digits.{hex4}
use Rattle.benchline.specs.Line.{field, fields}

pub field-length : (x : ℕ) → length (field x) ≡ 5
unfolding field hex4
field-length x = refl

pub fields-length : (values : List ℕ) (n : ℕ) → length (fields values n) ≡ n * 5
unfolding fields
fields-length values zero = refl
fields-length values (suc n) =
    length-append (fields values n) (field (get_or values n 0))
    ∙ omega (arith, fields-length values n, field-length (get_or values n 0))

pub fields-more : (values : List ℕ) (n : ℕ) → fields values n ++ field (get_or values n 0) ≡ fields values (n + 1)
unfolding fields
fields-more values n = rw (add-one n) refl
