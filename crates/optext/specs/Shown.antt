-- THE TEXT OF AN OP CODE STANDS IN A LINE OF A SOURCE AS IT IS: it fits the line, has no colon, and does not end with a space.
use Rattle.std.specs.Prelude.{ℕ, ◌≤◌, Bool, not, T, List, [], ◌∷◌, length, ◌==◌}

-- ---- a character that is not c; a text without c; a text's last character, or d of none

abbrev pub other : ℕ → ℕ → Bool
other c x = not (x == c)

pub record OtherLetter (c x : ℕ) : Type 0 where
  pub is : T (other c x)

pub data Without (c : ℕ) : List ℕ → Type 0 where
  none : Without c []
  more : {x : ℕ} {t : List ℕ} → OtherLetter c x → Without c t → Without c (x ∷ t)

abbrev pub last_letter : ℕ → List ℕ → ℕ
last_letter d [] = d
last_letter d (x ∷ t) = last_letter x t

-- a text that stands in a line as it is
pub record Stands (t : List ℕ) : Type 0 where
  pub size : length t ≤ 32
  pub colon : Without 58 t
  pub ending : OtherLetter 32 (last_letter 0 t)
