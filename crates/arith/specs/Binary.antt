-- Format 10 by op code: s is the source operand, d the destination operand, f the indicators before. CMP, BIT and CMPB have a result that is not stored.
use Rattle.std.specs.Prelude.{ℕ}
use Rattle.wordmath.specs.declared.Flags.{Flags}
use Rattle.wordmath.specs.declared.Done.{Done}
use Rattle.opcodes.specs.declared.Binary.{Binary}
use Rattle.opcodes.specs.declared.Binary.TheVariants.{Add, Sub, And, Bic, Bis, Xor, Cmp, Bit, Mov}
use Rattle.opcodes.specs.declared.ByteBinary.{ByteBinary}
use Rattle.opcodes.specs.declared.ByteBinary.TheVariants.{Cmpb, Movb, Bisb}
use Rattle.wordmath.specs.Number.{mov_of}
use Rattle.arith.specs.Ops.{add_of, sub_of, and_of, bic_of, bis_of, xor_of}

-- on words; CMP takes the destination from the source
abbrev pub binary_of : Binary → ℕ → ℕ → Flags → Done
binary_of Add s d f = add_of 16 s d
binary_of Sub s d f = sub_of 16 s d
binary_of And s d f = and_of 16 s d f
binary_of Bic s d f = bic_of 16 s d f
binary_of Bis s d f = bis_of 16 s d f
binary_of Xor s d f = xor_of 16 s d f
binary_of Cmp s d f = sub_of 16 d s
binary_of Bit s d f = and_of 16 s d f
binary_of Mov s d f = mov_of 16 s f

-- on bytes; MOVB to a register then extends the sign, BISB doesn't
abbrev pub byte_binary_of : ByteBinary → ℕ → ℕ → Flags → Done
byte_binary_of Cmpb s d f = sub_of 8 d s
byte_binary_of Movb s d f = mov_of 8 s f
byte_binary_of Bisb s d f = bis_of 8 s d f
