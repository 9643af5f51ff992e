-- Decoding and reading an operand writes nothing, and writing it writes once.
use Prim.Native.Nat.{ℕ}
use native.Mathlib.Omega.{arith}
use mathlib.Core.Bool.{true}
use mathlib.Core.Path.{◌≡◌}
use lib.Dec.{ltb}
use Rattle.board.specs.Work.{Work, Size, ◌>>=◌}
use Rattle.board.proofs.Laws.Bounded.{Bounded, gives, bounded-then, bounded-write, bounds}
use Rattle.state.specs.declared.State.{State}
use Rattle.operand.specs.declared.Place.{Place}
use Rattle.operand.specs.declared.Place.TheVariants.{Reg, Mem}
use Rattle.operand.specs.declared.Held.{Held}
use Rattle.operand.specs.Destination.{operand_of}
use Rattle.operand.specs.Operand.{locate, increment_deferred, decrement_deferred, indexed, indexed_deferred, deferred, Decoded, decode, read_of, write_to}

located : (step k r pc mode : ℕ) → Bounded 0 (locate step k r pc mode)
unfolding locate increment_deferred decrement_deferred indexed indexed_deferred deferred ◌>>=◌
located step k r pc mode = search bounds depth 20

decoded : (z : Size) (s : State) (mode k : ℕ) → Bounded 0 (decode z s mode k)
unfolding decode
decoded z s mode k = bounded-then {k = 0} (omega arith) (located _ k _ _ mode) (λ _. gives _)

read : (z : Size) (r : ℕ) (p : Place) → Bounded 0 (read_of z r p)
unfolding read_of
read z r Reg = search bounds
read z r (Mem a which v) = search bounds

module _ {A : Type 0} {n : ℕ} (z : Size) (s : State) (mode k : ℕ) where
  -- and then the work that follows
  pub bounded-decode : {f : Decoded → Work A} → ((to : Decoded) → Bounded n (f to)) → Bounded n (decode z s mode k >>= f)
  bounded-decode h = bounded-then {k = n} (omega arith) (decoded z s mode k) h

  pub bounded-operand : {f : Held → Work A} → ((o : Held) → Bounded n (f o)) → Bounded n (operand_of z s mode k >>= f)
  unfolding operand_of
  bounded-operand h =
      bounded-then {n = 0} {k = n} (omega arith)
      (bounded-then {k = 0} (omega arith) (decoded z s mode k) (λ to. bounded-then {k = 0} (omega arith) (read z _ _) (λ v. gives _))) h

pub bounded-written : {n : ℕ} (z : Size) (s : State) (k : ℕ) (p : Place) (v : ℕ) → ltb 0 n ≡ true → Bounded n (write_to z s k p v)
unfolding write_to ◌>>=◌
bounded-written z s k Reg v e = gives _
bounded-written z s k (Mem a which w) v e = bounded-write z a v e (gives _)

-- for `search`
pub ruleset operand-bounds = (bounds, bounded-decode, bounded-operand, bounded-written)
