-- The entries of a source, in the order of their addresses, as the code inserts them.
use mathlib.Core.List.{List, [], ◌∷◌}
use Prim.Native.Nat.{ℕ, ◌*◌}
use mathlib.Core.Path.{◌≡◌, refl}
use native.Mathlib.Omega.{arith}
use lib.ListN.{length}
use Rattle.assembler.specs.Section.{section_bytes}

-- among rising entries each place keeps the lower and hands on the higher

-- four bytes an entry
pub flat-length : (l : List ℕ) → length (section_bytes l) ≡ 4 * length l
unfolding section_bytes
flat-length [] = refl
flat-length (e ∷ l) = let h = flat-length l in omega arith
