-- The op codes of format 9 in the order in which the code tells them apart.
use Prim.Native.Nat.{ℕ, ◌≤◌}
use mathlib.Core.Path.{◌≡◌, refl}
use Rattle.opcodes.specs.Fields.{format9_code}
use Rattle.opcodes.proofs.Laws.Past.{from_last}
use Rattle.shift.specs.Shifted.{preset}
use Rattle.state.specs.declared.State.{State}
use Rattle.state.specs.declared.Outside.{Outside}
use Rattle.state.specs.State.{with_flags}
use Rattle.format9.specs.Format9.{div, codes9, format9}

pub format9-last : (out : Outside) (s : State) (op : ℕ) → 7 ≤ format9_code op → format9 out s op ≡ div (with_flags s preset) op
unfolding format9
format9-last out s op h = from_last (codes9 out s (with_flags s preset) op) (div (with_flags s preset) op) (format9_code op) refl h
