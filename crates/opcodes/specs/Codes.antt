-- The op codes of each format by number, in the manual's order. A look-up past the last row, which no op code reaches, gives that row.
use Rattle.std.specs.Prelude.{ℕ, List, [], ◌∷◌, get_or}
use Rattle.opcodes.specs.declared.Immediate.{Immediate}
use Rattle.opcodes.specs.declared.Immediate.TheVariants.{Addi, Subi, Bici, Movi}
use Rattle.opcodes.specs.declared.Way.{Way}
use Rattle.opcodes.specs.declared.Way.TheVariants.{RightRotate, LeftRotate, RightArith, LeftArith}
use Rattle.opcodes.specs.declared.Unary.{Unary}
use Rattle.opcodes.specs.declared.Unary.TheVariants.{Ror, Rol, Tst, Asl, Set, Clr, Asr, Swap, Com, Neg, Inc, Dec}
use Rattle.opcodes.specs.declared.Binary.{Binary}
use Rattle.opcodes.specs.declared.Binary.TheVariants.{Add, Sub, And, Bic, Bis, Xor, Cmp, Bit, Mov}
use Rattle.opcodes.specs.declared.ByteBinary.{ByteBinary}
use Rattle.opcodes.specs.declared.ByteBinary.TheVariants.{Cmpb, Movb, Bisb}

-- in the order of bits 5 and 4 of format 6
abbrev pub immediates : List Immediate
immediates = Addi ∷ Subi ∷ Bici ∷ Movi ∷ []

abbrev pub immediate_at : ℕ → Immediate
immediate_at k = get_or immediates k Movi

-- the shifts in the order of bits 5 and 4 of format 6
abbrev pub ways : List Way
ways = RightRotate ∷ LeftRotate ∷ RightArith ∷ LeftArith ∷ []

abbrev pub way_at : ℕ → Way
way_at k = get_or ways k LeftArith

-- the op codes in their order from 0A00 and 8A00, 64 words to each
abbrev pub unaries : List Unary
unaries = Ror ∷ Rol ∷ Tst ∷ Asl ∷ Set ∷ Clr ∷ Asr ∷ Swap ∷ Com ∷ Neg ∷ Inc ∷ Dec ∷ []

abbrev pub unary_at : ℕ → Unary
unary_at k = get_or unaries k Dec

-- 1000 to 6FFF, then 9000 to BFFF: the word op codes in their order
abbrev pub binaries : List Binary
binaries = Add ∷ Sub ∷ And ∷ Bic ∷ Bis ∷ Xor ∷ Cmp ∷ Bit ∷ Mov ∷ []

abbrev pub binary_at : ℕ → Binary
binary_at k = get_or binaries k Mov

-- C000 to EFFF: the byte op codes in their order
abbrev pub byte_binaries : List ByteBinary
byte_binaries = Cmpb ∷ Movb ∷ Bisb ∷ []

abbrev pub byte_binary_at : ℕ → ByteBinary
byte_binary_at k = get_or byte_binaries k Bisb
