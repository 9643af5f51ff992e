-- The op codes whose high byte is 00, in the order in which the code tells them apart.
use Prim.Native.Nat.{ℕ, ◌/◌}
use mathlib.Core.Path.{◌≡◌}
use native.Mathlib.Omega.{arith}
use borrow.Author.Tests.{lt-ltb, le-ltb}
use Rattle.opcodes.specs.Fields.{only_register}
use Rattle.state.specs.declared.State.{State}
use Rattle.state.specs.declared.Outside.{Outside}
use Rattle.formats2to4.specs.Format2.{rtn, format2}
use Rattle.formats2to4.specs.Low.{formats2to4, low_codes}

-- 0018 to 001F
pub low-rtn : (out : Outside) (s : State) (op : ℕ) → op / 8 ≡ 3 → low_codes out s op ≡ rtn s (only_register op)
unfolding low_codes formats2to4 format2
low-rtn out s op e = rw (le-ltb op 0x10 (omega (arith, e)), lt-ltb op 0x30 (omega (arith, e)), e)
