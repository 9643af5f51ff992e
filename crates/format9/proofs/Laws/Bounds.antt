-- An op code of format 9 writes at most twice.
use Prim.Native.Nat.{ℕ}
use Rattle.board.proofs.Laws.Bounded.{Bounded, bounds}
use Rattle.state.specs.declared.State.{State}
use Rattle.state.specs.declared.Outside.{Outside}
use Rattle.state.proofs.Laws.Bounds.{opened}
use Rattle.operand.specs.declared.Place.{Place}
use Rattle.operand.specs.declared.Place.TheVariants.{Reg, Mem}
use Rattle.operand.proofs.Laws.Bounds.{operand-bounds}
use Rattle.format9.specs.Format9.{jsr_at, jsr_to, jsr, lea_to, lea, ash, xch, ashc, mul, div, format9}

bounded-jsr_to : (out : Outside) (s : State) (r : ℕ) (p : Place) → Bounded 2 (jsr_to out s r p)
unfolding jsr_to jsr_at opened
bounded-jsr_to out s r Reg = search bounds
bounded-jsr_to out s r (Mem a which v) = search bounds

bounded-lea_to : (out : Outside) (s : State) (r : ℕ) (p : Place) → Bounded 2 (lea_to out s r p)
unfolding lea_to opened
bounded-lea_to out s r Reg = search bounds
bounded-lea_to out s r (Mem a which v) = search bounds

pub bounded-format9 : (out : Outside) (s : State) (op : ℕ) → Bounded 2 (format9 out s op)
unfolding format9 jsr lea ash xch ashc mul div
bounded-format9 out s op = search (operand-bounds, bounded-jsr_to, bounded-lea_to) depth 20
