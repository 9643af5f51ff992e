-- 01's example line, and others, computed from the definition.
use mathlib.Core.Path.{◌≡◌, refl}
use mathlib.Core.List.{List, [], ◌∷◌}
use Prim.Native.Nat.{ℕ}
use Rattle.hexdigits.specs.Digits.{digits, hex_of, hex4}
use Rattle.std.proofs.Common.{Some, None}
use Rattle.benchline.specs.Line.{field, fields, mode_digit, place_text, first_text, line_text, name, decimal, refused_text}

registers : List ℕ
registers = 0 ∷ 1 ∷ 0 ∷ 0 ∷ 0 ∷ 0 ∷ 12 ∷ 146 ∷ []

-- 0000 0001 0000 0000 0000 0000 000C 0092 0F00 0 0001 0001 C001, of a PS that had bits 15 and 14 set
page-line : line_text registers 52992 0 1 (Some 1) (Some 49153)
    ≡ 48 ∷ 48 ∷ 48 ∷ 48 ∷ 32 ∷ 48 ∷ 48 ∷ 48 ∷ 49 ∷ 32 ∷ 48 ∷ 48 ∷ 48 ∷ 48 ∷ 32 ∷ 48 ∷ 48 ∷ 48 ∷ 48 ∷ 32
    ∷ 48 ∷ 48 ∷ 48 ∷ 48 ∷ 32 ∷ 48 ∷ 48 ∷ 48 ∷ 48 ∷ 32 ∷ 48 ∷ 48 ∷ 48 ∷ 67 ∷ 32 ∷ 48 ∷ 48 ∷ 57 ∷ 50 ∷ 32
    ∷ 48 ∷ 70 ∷ 48 ∷ 48 ∷ 32 ∷ 48 ∷ 32 ∷ 48 ∷ 48 ∷ 48 ∷ 49 ∷ 32 ∷ 48 ∷ 48 ∷ 48 ∷ 49 ∷ 32
    ∷ 67 ∷ 48 ∷ 48 ∷ 49 ∷ []
unfolding registers line_text fields field hex4 hex_of digits mode_digit place_text first_text
page-line = refl

-- ---- where there was no blank
no_place : first_text None None ≡ 45 ∷ 45 ∷ 45 ∷ 45 ∷ 32 ∷ 45 ∷ 45 ∷ 45 ∷ 45 ∷ []
unfolding first_text place_text
no_place = refl

-- REFUSED 4, REFUSED 17
refused-4 : refused_text 4 ≡ 82 ∷ 69 ∷ 70 ∷ 85 ∷ 83 ∷ 69 ∷ 68 ∷ 32 ∷ 52 ∷ []
unfolding refused_text name decimal
refused-4 = refl

refused-17 : refused_text 17 ≡ 82 ∷ 69 ∷ 70 ∷ 85 ∷ 83 ∷ 69 ∷ 68 ∷ 32 ∷ 49 ∷ 55 ∷ []
unfolding refused_text name decimal
refused-17 = refl
