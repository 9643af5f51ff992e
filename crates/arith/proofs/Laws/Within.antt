-- A byte's result is a byte.
use Prim.Native.Nat.{ℕ, ◌<◌}
use native.Mathlib.Omega.{arith}
use lib.Bits.{or_lt}
use Rattle.wordmath.specs.declared.Flags.{Flags}
use Rattle.opcodes.specs.declared.ByteBinary.{ByteBinary}
use Rattle.opcodes.specs.declared.ByteBinary.TheVariants.{Cmpb, Movb, Bisb}
use Rattle.arith.specs.Binary.{byte_binary_of}

-- the byte op codes of format 10 give a byte
pub byte-binary-lt : (op : ByteBinary) (s d : ℕ) (f : Flags) → s < 256 → d < 256 → (byte_binary_of op s d f).value < 256
byte-binary-lt Cmpb s d f hs hd = omega arith
byte-binary-lt Movb s d f hs hd = hs
byte-binary-lt Bisb s d f hs hd = or_lt 8 s d hs hd
