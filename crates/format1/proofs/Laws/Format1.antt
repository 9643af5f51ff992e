-- The last op code of format 1.
use Prim.Native.Nat.{ℕ, ◌≤◌}
use mathlib.Core.Path.{◌≡◌, refl}
use Rattle.opcodes.proofs.Laws.Past.{from_last}
use Rattle.state.specs.declared.State.{State}
use Rattle.state.specs.declared.Outside.{Outside}
use Rattle.format1.specs.Format1.{rtt, codes1, format1}

pub format1-last : (out : Outside) (s : State) (op : ℕ) → 15 ≤ op → format1 out s op ≡ rtt s
unfolding format1
format1-last out s op h = from_last (codes1 out s) (rtt s) op refl h
