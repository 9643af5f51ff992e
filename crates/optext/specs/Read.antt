-- The reader as a function: the words of the op code whose text a text is, or none.
use Rattle.std.specs.Prelude.{ℕ, zero, suc, ◌/◌, ◌%◌, ◌^◌, Bool, true, false, cond, List, [], ◌∷◌, Option, Some, None, length, take, ◌==◌, slice_index}
use Rattle.optext.specs.declared.Op.{Op}
use Rattle.optext.specs.Line.{taken, text_of}

-- two texts compared
abbrev pub same_text : List ℕ → List ℕ → Bool
same_text [] [] = true
same_text [] (y ∷ ys) = false
same_text (x ∷ xs) [] = false
same_text (x ∷ xs) (y ∷ ys) = cond (x == y) (same_text xs ys) false

-- the op code of a number below 2 ^ 48: its first word, and as many of the two words after it as it takes
unfoldable pub op_code : ℕ → List ℕ
op_code n = take (taken (n / 2 ^ 32)) (n / 2 ^ 32 ∷ n / 2 ^ 16 % 2 ^ 16 ∷ n % 2 ^ 16 ∷ [])

-- of the op codes of the numbers below n the one whose text is t; no two have one text (`OneText`)
unfoldable pub found_below : ℕ → List ℕ → List ℕ
found_below zero t = []
found_below (suc n) t = cond (same_text (text_of (op_code n)) t) (op_code n) (found_below n t)

unfoldable pub words_of_text : List ℕ → List ℕ
words_of_text t = found_below (2 ^ 48) t

-- up to three words by value
abbrev pub op_of : List ℕ → Op
op_of ws = record { count = length ws; a = slice_index ws 0; b = slice_index ws 1; c = slice_index ws 2 }

-- without words it is no op code
abbrev pub op_or_none : List ℕ → Option Op
op_or_none [] = None
op_or_none (w ∷ ws) = Some (op_of (w ∷ ws))
