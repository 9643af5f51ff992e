-- Format 10 in the order in which the code goes: the source, then the destination's half.
use Prim.Native.Nat.{ℕ}
use mathlib.Core.Bool.{true, false}
use mathlib.Core.Path.{◌≡◌}
use Rattle.opcodes.specs.declared.Binary.{Binary}
use Rattle.board.specs.Work.{give, word}
use Rattle.state.specs.declared.State.{State}
use Rattle.state.proofs.Laws.State.{cond_yes, cond_no}
use Rattle.operand.specs.declared.Place.{Place}
use Rattle.operand.specs.Operand.{write_to}
use Rattle.format10.specs.Format10.{stores, settle}

pub settle-yes : (b : Binary) (s : State) (k : ℕ) (p : Place) (v : ℕ) → stores b ≡ true → settle b s k p v ≡ write_to word s k p v
unfolding settle
settle-yes b s k p v e = cond_yes (give s) e

pub settle-no : (b : Binary) (s : State) (k : ℕ) (p : Place) (v : ℕ) → stores b ≡ false → settle b s k p v ≡ give s
unfolding settle
settle-no b s k p v e = cond_no (write_to word s k p v) e
