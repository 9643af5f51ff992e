-- Where a line ends, by the bytes before its newline.
use Rattle.std.proofs.Common.{◌≡◌, ℕ, ◌+◌, ◌≤◌, Bool, true, false, List, [], ◌∷◌, length, drop, arith, refl, ap}
use Rattle.std.specs.Prelude.{cond, not, eqb, ◌==◌}
use Rattle.std.specs.List.{prefix_len}
use Rattle.std.proofs.Math.ListN.{length-drop}
use Rattle.printing.specs.Lines.{line_length, line_ends_at}

-- counted, as the bytes of which none is a newline
pub line-counted : (t : List ℕ) → prefix_len (λ b. not (b == 10)) t ≡ line_length t
unfolding line_length
line-counted [] = refl
line-counted (b ∷ t) = by (eqb b 10) (line-counted t)
  where
    by : (e : Bool) → prefix_len (λ b. not (b == 10)) t ≡ line_length t → cond (not e) (1 + prefix_len (λ b. not (b == 10)) t) 0 ≡ cond e 0 (1 + line_length t)
    by true h = refl
    by false h = ap (λ n. 1 + n) h

pub line-within : (t : List ℕ) → line_length t ≤ length t
unfolding line_length
line-within [] = omega arith
line-within (b ∷ t) = by (eqb b 10) (line-within t)
  where
    by : (e : Bool) → line_length t ≤ length t → cond e 0 (1 + line_length t) ≤ length (b ∷ t)
    by true h = omega arith
    by false h = omega (arith, h)

-- where the text ends
pub line-whole : (t : List ℕ) (i : ℕ) → length t ≤ i → line_ends_at t i ≡ i
line-whole t i h = let s = line-within (drop i t) in omega (arith, s, length-drop i t, h)

-- inside the text
pub line-fits : (t : List ℕ) (i : ℕ) → i ≤ length t → line_ends_at t i ≤ length t
line-fits t i h = let s = line-within (drop i t) in omega (arith, s, length-drop i t, h)
