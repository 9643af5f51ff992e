-- An op code of format 10 writes at most once.
use Prim.Native.Nat.{ℕ}
use Rattle.opcodes.specs.declared.ByteBinary.{ByteBinary}
use Rattle.opcodes.specs.declared.ByteBinary.TheVariants.{Cmpb, Movb, Bisb}
use Rattle.board.proofs.Laws.Bounded.{Bounded, bounds}
use Rattle.state.specs.declared.State.{State}
use Rattle.operand.specs.declared.Place.{Place}
use Rattle.operand.specs.declared.Place.TheVariants.{Reg, Mem}
use Rattle.operand.proofs.Laws.Bounds.{operand-bounds}
use Rattle.format10.specs.Format10.{settle, move_byte, settle_byte, on_operands, format10}

bounded-settle_byte : (b : ByteBinary) (s : State) (k : ℕ) (p : Place) (v : ℕ) → Bounded 1 (settle_byte b s k p v)
unfolding settle_byte move_byte
bounded-settle_byte Cmpb s k p v = search bounds
bounded-settle_byte Movb s k Reg v = search bounds
bounded-settle_byte Movb s k (Mem a which w) v = search operand-bounds
bounded-settle_byte Bisb s k p v = search operand-bounds

pub bounded-format10 : (s : State) (op : ℕ) → Bounded 1 (format10 s op)
unfolding format10 on_operands settle
bounded-format10 s op = search (operand-bounds, bounded-settle_byte) depth 10
