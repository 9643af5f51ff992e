-- What a writer leaves in a lent buffer: the text in front, and every entry after it as it was.
use Rattle.std.specs.Prelude.{cond, ◌≡◌, List, ◌++◌, ℕ, ◌+◌, leb, length, take, drop}

unfoldable pub in_front_of : List ℕ → List ℕ → List ℕ
in_front_of xs b = xs ++ drop (length xs) b

-- a writer of the text s made the buffer e of b, and answered n
pub record Wrote (s b e : List ℕ) (n : ℕ) : Type 0 where
  pub bytes : e ≡ in_front_of s b
  pub count : n ≡ length s

-- the same from the place `at` on
pub record WroteAt (at : ℕ) (s b e : List ℕ) (n : ℕ) : Type 0 where
  pub bytes : e ≡ take at b ++ in_front_of s (drop at b)
  pub count : n ≡ at + length s

-- how many characters were written, and the buffer after
pub record TextLeft : Type 0 where
  pub count : ℕ
  pub bytes : List ℕ

abbrev pub text_left : ℕ → List ℕ → TextLeft
text_left n b = record { count = n; bytes = b }

-- a text goes to the front of the buffer and the rest stays; where it does not fit, nothing is written
unfoldable pub written : List ℕ → List ℕ → TextLeft
written text b = cond (leb (length text) (length b)) (text_left (length text) (in_front_of text b)) (text_left 0 b)
