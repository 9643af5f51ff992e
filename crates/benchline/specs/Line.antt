-- The line that bench prints: R0-R5, SP, PC, PS, mode digit, blanks, the first one's place and address, or ---- ----. Or REFUSED and a number in decimal.
-- Written into a lent text: its length is answered, or 8 where it does not fit.
use Rattle.std.specs.Prelude.{Option, Some, None, Result, cond, List, [], ◌∷◌, ◌++◌, ℕ, zero, suc, ◌+◌, ◌/◌, ◌%◌, leb, ltb, length, get_or}
use Rattle.hexdigits.specs.Digits.{hex_of, hex4}
use Rattle.hexdigits.specs.Over.{in_front_of}
use Rattle.refusal.specs.Numbers.{text_short}
use Rattle.refusal.specs.Page.{Page, answered, Left, left, call}
use Rattle.refusal.specs.declared.Refusal.{Refusal}
use Rattle.refusal.specs.Answer.{page_of}

abbrev pub space : List ℕ
space = 32 ∷ []

abbrev pub dashes : List ℕ
dashes = 45 ∷ 45 ∷ 45 ∷ 45 ∷ []

-- four digits and a space
unfoldable pub field : ℕ → List ℕ
field x = hex4 x ++ space

-- the first n of the values, one field after the other
unfoldable pub fields : List ℕ → ℕ → List ℕ
fields values zero = []
fields values (suc n) = fields values n ++ field (get_or values n 0)

-- one digit and a space
unfoldable pub mode_digit : ℕ → List ℕ
mode_digit mode = hex_of (mode % 16) ∷ space

-- a place or an address, or ----
unfoldable pub place_text : Option ℕ → List ℕ
place_text (Some x) = hex4 x
place_text None = dashes

-- the first blank: its place and the address that it told
unfoldable pub first_text : Option ℕ → Option ℕ → List ℕ
first_text place address = (place_text place ++ space) ++ place_text address

-- PS has bits 15 and 14 clear
unfoldable pub line_text : List ℕ → ℕ → ℕ → ℕ → Option ℕ → Option ℕ → List ℕ
line_text regs ps mode blanks place address =
    (((fields regs 8 ++ field (ps % 16384)) ++ mode_digit mode) ++ field blanks) ++ first_text place address

-- REFUSED and a space
unfoldable pub name : List ℕ
name = 82 ∷ 69 ∷ 70 ∷ 85 ∷ 83 ∷ 69 ∷ 68 ∷ 32 ∷ []

-- a number below 1000 in decimal
unfoldable pub decimal : ℕ → List ℕ
decimal n =
    cond (ltb n 10) ((48 + n) ∷ [])
    (cond (ltb n 100) ((48 + n / 10) ∷ (48 + n % 10) ∷ [])
    ((48 + n / 100) ∷ (48 + n / 10 % 10) ∷ (48 + n % 10) ∷ []))

unfoldable pub refused_text : ℕ → List ℕ
refused_text n = name ++ decimal n

-- ---- a line written into a lent text

abbrev pub printed_page : Result ℕ Refusal → Page ℕ
printed_page r = page_of (λ n. n) r

-- 8: the text is too short for the line
abbrev pub print_why : ℕ → ℕ → ℕ
print_why size text = cond (leb size text) 0 text_short

-- the line goes to the front of the text, and the rest of it stays
unfoldable pub print_of : List ℕ → List ℕ → Left ℕ (List ℕ)
print_of s b = call (print_why (length s) (length b)) (left (answered (length s)) (in_front_of s b)) b
