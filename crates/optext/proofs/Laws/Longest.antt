-- The longest line has 24 characters.
use Rattle.std.proofs.Common.{◌≡◌, ℕ, ◌≤◌, List, [], ◌∷◌, length, refl, ⊎_elim, arith, length-append}
use Rattle.hexdigits.specs.Digits.{digits, hex_of, hex4}
use Rattle.optext.specs.Rows.{rows, the_row, first_of, second_of}
use Rattle.optext.specs.Line.{registers, reg_a, reg_b, offset_text, plain_text, mode_text, mode_takes, is_reserved, row_of, is_shown, sep_text, op_text, text_of}
use Rattle.optext.proofs.Laws.Choose.{bool_cases}
use Rattle.optext.proofs.Laws.Table.{name-le, two-le}
use Rattle.optext.proofs.Laws.Forms.{sep-none, sep-le}
use Rattle.optext.proofs.Laws.Reserved.{row_lt}

pub line-le : (w x y : ℕ) → length (op_text w x y) ≤ 24
unfolding op_text
line-le w x y =
    let k : ℕ = row_of w in
    let c = sep-le 32 (first_of k) w x in
    let d = sep-le 44 (second_of k) w y in
    ⊎_elim
    (λ e. let n = name-le k (row_lt w) in
    rw (sep-none 44 (second_of k) w y e) (simp length-append (omega arith)))
    (λ e. let n = two-le k (row_lt w) e in
    simp length-append (omega arith))
    (bool_cases (is_shown (second_of k)))

pub text-le : (ws : List ℕ) → length (text_of ws) ≤ 24
unfolding text_of
text-le ws = line-le _ _ _

-- DE38 0000 0000 is MOVB @0000(R0),@0000(R0)
pub line-24 : length (text_of (0xDE38 ∷ 0 ∷ 0 ∷ [])) ≡ 24
unfolding text_of op_text row_of the_row rows sep_text mode_text mode_takes plain_text offset_text reg_a reg_b registers hex4 hex_of digits is_reserved
line-24 = refl
