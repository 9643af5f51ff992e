-- Format 7, 0A00 to 0CC0 and 8A00 to 8CC0, by op code and over the width w. in_register: the operand's mode is 0.
use Rattle.std.specs.Prelude.{ℕ, Bool, ◌&&◌, cond, eqb}
use Rattle.wordmath.specs.declared.Flags.{Flags}
use Rattle.wordmath.specs.declared.Done.{Done}
use Rattle.opcodes.specs.declared.Way.TheVariants.{RightRotate, LeftRotate, RightArith, LeftArith}
use Rattle.opcodes.specs.declared.Unary.{Unary}
use Rattle.opcodes.specs.declared.Unary.TheVariants.{Ror, Rol, Tst, Asl, Set, Clr, Asr, Swap, Com, Neg, Inc, Dec}
use Rattle.wordmath.specs.Number.{mov_of}
use Rattle.unary.specs.Ops.{set_of, clr_of, swab_of, swad_of, com_of, neg_of, inc_of, dec_of}
use Rattle.shift.specs.Shifted.{one_bit_of}

-- CLR keeps C where the operand is a word in a register, and resets it elsewhere; Swap is SWAB on words, SWAD on bytes
abbrev pub unary_of : ℕ → Unary → Bool → ℕ → Flags → Done
unary_of w Ror in_register d f = one_bit_of w RightRotate d f
unary_of w Rol in_register d f = one_bit_of w LeftRotate d f
unary_of w Tst in_register d f = mov_of w d f
unary_of w Asl in_register d f = one_bit_of w LeftArith d f
unary_of w Set in_register d f = set_of w f
unary_of w Clr in_register d f = clr_of (eqb w 16 && (in_register && f.c))
unary_of w Asr in_register d f = one_bit_of w RightArith d f
unary_of w Swap in_register d f = cond (eqb w 8) (swad_of d) (swab_of d f)
unary_of w Com in_register d f = com_of w d
unary_of w Neg in_register d f = neg_of w d
unary_of w Inc in_register d f = inc_of w d
unary_of w Dec in_register d f = dec_of w d
