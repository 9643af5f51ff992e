-- Laws of lent bytes and of a word's two bytes.
use Prim.Native.Nat.{ℕ, ◌+◌, ◌*◌, ◌/◌, ◌%◌, ◌<◌}
use mathlib.Core.List.{List, ◌++◌, append-nil, [], ◌∷◌}
use mathlib.Core.Path.{◌≡◌, ◌∙◌}
use native.Mathlib.Omega.{arith}
use lib.ListN.{length, take, drop}
use lib.Seq.{take-length, drop-length}
use Rattle.wordbytes.specs.Words.{bytes_in}

-- a word's low and high byte give it back, and a word made of two bytes has them
pub word-again : (v : ℕ) → v % 256 + v / 256 * 256 ≡ v
word-again v = omega arith

pub low_of : (x y : ℕ) → x < 256 → (x + y * 256) % 256 ≡ x
low_of x y h = omega arith

pub high-of : (x y : ℕ) → x < 256 → (x + y * 256) / 256 ≡ y
high-of x y h = omega arith

-- a buffer that is as long as what is copied into it is what was copied
pub copied : (from b b' : List ℕ) → length b ≡ length from → b' ≡ take (length from) from ++ drop (length from) b → b' ≡ from
copied from b b' l e = e ∙ rw (take-length from, ← l, drop-length b, append-nil)

-- two bytes a word
pub bytes-length : (vs : List ℕ) → length (bytes_in vs) ≡ length vs * 2
bytes-length [] = omega arith
bytes-length (v ∷ vs) = omega (arith, bytes-length vs)
