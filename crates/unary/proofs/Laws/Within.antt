-- A byte's result is a byte.
use Prim.Native.Nat.{ℕ, ◌<◌}
use mathlib.Core.Bool.{Bool}
use native.Mathlib.Omega.{arith}
use Rattle.wordmath.specs.declared.Flags.{Flags}
use Rattle.opcodes.specs.declared.Way.TheVariants.{RightRotate, LeftRotate, RightArith, LeftArith}
use Rattle.opcodes.specs.declared.Unary.{Unary}
use Rattle.opcodes.specs.declared.Unary.TheVariants.{Ror, Rol, Tst, Asl, Set, Clr, Asr, Swap, Com, Neg, Inc, Dec}
use Rattle.shift.proofs.Laws.Within.{turn-lt}
use Rattle.unary.specs.Unary.{unary_of}

-- the byte op codes of format 7 give a byte
pub unary-lt : (op : Unary) (in_register : Bool) (d : ℕ) (f : Flags) → d < 256 → (unary_of 8 op in_register d f).value < 256
unary-lt Ror in_register d f h = turn-lt 8 RightRotate (record { x = d; c = f.c }) (omega arith) h
unary-lt Rol in_register d f h = turn-lt 8 LeftRotate (record { x = d; c = f.c }) (omega arith) h
unary-lt Tst in_register d f h = h
unary-lt Asl in_register d f h = turn-lt 8 LeftArith (record { x = d; c = f.c }) (omega arith) h
unary-lt Set in_register d f h = omega arith
unary-lt Clr in_register d f h = omega arith
unary-lt Asr in_register d f h = turn-lt 8 RightArith (record { x = d; c = f.c }) (omega arith) h
unary-lt Swap in_register d f h = omega arith
unary-lt Com in_register d f h = omega arith
unary-lt Neg in_register d f h = omega arith
unary-lt Inc in_register d f h = omega arith
unary-lt Dec in_register d f h = omega arith
