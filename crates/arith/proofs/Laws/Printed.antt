-- The manual's fifteen lines of format 5, and the theorem that the seven conditions and the reversal are these.
use mathlib.Core.Bool.{Bool, true, false, not, ◌||◌}
use mathlib.Core.List.{List, [], ◌∷◌, map}
use mathlib.Core.Path.{◌≡◌, refl}
use Prim.Native.Nat.{ℕ}
use Rattle.wordmath.specs.declared.Flags.{Flags}
use Rattle.arith.specs.Branch.{◌xor◌, branch_taken}

-- the high bytes 00 to 07 and 80 to 87, counted through; 00 is no branch and stands beside BR
abbrev pub numbers : List ℕ
numbers = 0 ∷ 1 ∷ 2 ∷ 3 ∷ 4 ∷ 5 ∷ 6 ∷ 7 ∷ 8 ∷ 9 ∷ 10 ∷ 11 ∷ 12 ∷ 13 ∷ 14 ∷ 15 ∷ []

-- "IF x = 0", "IF x = 1"
abbrev is0 : Bool → Bool
is0 x = not x

abbrev is1 : Bool → Bool
is1 x = x

-- the manual's OPERATION lines, in their order
abbrev pub printed : Flags → List Bool
printed f
    = true  -- 00
    ∷ true  -- 01 BR
    ∷ is0 f.z  -- 02 BNE
    ∷ is1 f.z  -- 03 BEQ
    ∷ is0 (f.n xor f.v)  -- 04 BGE
    ∷ is1 (f.n xor f.v)  -- 05 BLT
    ∷ is0 (f.z || (f.n xor f.v))  -- 06 BGT
    ∷ is1 (f.z || (f.n xor f.v))  -- 07 BLE
    ∷ is0 f.n  -- 80 BPL
    ∷ is1 f.n  -- 81 BMI
    ∷ is0 (f.c || f.z)  -- 82 BHI
    ∷ is1 (f.c || f.z)  -- 83 BLOS
    ∷ is0 f.v  -- 84 BVC
    ∷ is1 f.v  -- 85 BVS
    ∷ is0 f.c  -- 86 BCC, BHIS
    ∷ is1 f.c  -- 87 BCS, BLO
    ∷ []

-- an even high byte keeps its pair's condition, an odd one reverses it
kept : (b : Bool) → (not b xor false) ≡ is0 b
kept true = refl
kept false = refl

turned : (b : Bool) → (not b xor true) ≡ is1 b
turned true = refl
turned false = refl

-- on every high byte and all indicators a branch is taken just when the manual's line says so
pub as-printed : (f : Flags) → map (λ k. branch_taken k f) numbers ≡ printed f
as-printed f = simp (kept, turned) refl
