-- Format 5: when a branch is taken, on the indicators f. Seven conditions and one reversal; BR stands alone.
use Rattle.std.specs.Prelude.{Bool, true, false, cond, not, ◌||◌, List, [], ◌∷◌, ℕ, ◌-◌, ◌/◌, ◌%◌, eqb, ltb, get_or}
use Rattle.wordmath.specs.declared.Flags.{Flags}
use Rattle.wordmath.specs.Number.{differ}

infixl 32 ◌xor◌
abbrev pub ◌xor◌ : Bool → Bool → Bool
a xor b = differ a b

-- the seven conditions, each for the even high byte; beside it stands its pair
abbrev pub conditions : Flags → List Bool
conditions f
    = not f.z  -- 02 BNE   03 BEQ
    ∷ not (f.n xor f.v)  -- 04 BGE   05 BLT
    ∷ not (f.z || (f.n xor f.v))  -- 06 BGT   07 BLE
    ∷ not f.n  -- 80 BPL   81 BMI
    ∷ not (f.c || f.z)  -- 82 BHI   83 BLOS
    ∷ not f.v  -- 84 BVC   85 BVS
    ∷ not f.c  -- 86 BCC   87 BCS
    ∷ []

-- by the pair's number; past the table no condition holds
abbrev pub condition : ℕ → Flags → Bool
condition pair f = get_or (conditions f) pair false

abbrev pub odd : ℕ → Bool
odd k = eqb (k % 2) 1

-- The branch k, counted through the high bytes: 01 to 07 are 1 to 7, 80 to 87 are 8 to 15. BR is always taken; an odd
-- high byte reverses the condition of the even one before it.
abbrev pub branch_taken : ℕ → Flags → Bool
branch_taken k f = cond (ltb k 2) true (condition (k / 2 - 1) f xor odd k)
