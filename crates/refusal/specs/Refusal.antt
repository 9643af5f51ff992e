-- Refusals 1, 2, 3, 35, 4 and 5 of what the processor is lent, 0 for none; in this order.
use Rattle.std.specs.Prelude.{ℕ, ◌+◌, ◌/◌, ◌%◌, Bool, true, false, cond, ◌&&◌, List, [], ◌∷◌, length, ◌==◌, nat_le, nat_lt}
use Rattle.refusal.specs.Numbers.{image_length, map_length, map_byte, setup, lines_length, line_bit}
use Rattle.refusal.specs.Page.{first}

-- every element passes
unfoldable pub all_of : {A : Type 0} → (A → Bool) → List A → Bool
all_of p [] = true
all_of p (x ∷ xs) = cond (p x) (all_of p xs) false

-- a map byte is 0, 1 or 2
abbrev pub flat : ℕ → Bool
flat b = nat_lt b 3

-- bits 2, 4 to 6 and 12 to 15 of a line word are 0
abbrev pub plain : ℕ → Bool
plain x = x / 4 % 2 + x / 16 % 8 + x / 4096 == 0

-- each in its place of the order
unfoldable pub board_refusal : ℕ → List ℕ → ℕ
board_refusal size map =
    first (cond (size == 65536) 0 image_length)
    (first (cond (length map == 256) 0 map_length)
    (cond (all_of flat map) 0 map_byte))

-- the most line words of a run
abbrev pub most_line_words : ℕ
most_line_words = 4096

unfoldable pub lines_refusal : List ℕ → ℕ
lines_refusal lines = first (cond (nat_le (length lines) most_line_words) 0 lines_length) (cond (all_of plain lines) 0 line_bit)

-- the jumpers of the power-up option, those of the halt option, the address register
abbrev pub jumpers_fit : ℕ → ℕ → ℕ → Bool
jumpers_fit p h r = nat_lt p 4 && nat_lt h 4 && nat_lt r 64

unfoldable pub power_refusal : ℕ → List ℕ → ℕ → ℕ → ℕ → ℕ
power_refusal size map p h r = first (board_refusal size map) (cond (jumpers_fit p h r) 0 setup)

unfoldable pub step_refusal : ℕ → List ℕ → ℕ → ℕ → ℕ → ℕ → ℕ
step_refusal size map p h r line = first (power_refusal size map p h r) (cond (plain line) 0 line_bit)

unfoldable pub run_refusal : ℕ → List ℕ → ℕ → ℕ → ℕ → List ℕ → ℕ
run_refusal size map p h r lines = first (power_refusal size map p h r) (lines_refusal lines)
