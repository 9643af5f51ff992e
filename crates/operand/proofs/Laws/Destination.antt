-- A destination that is decoded and read, in the order in which the code goes; once for words and bytes.
use Prim.Native.Nat.{ℕ}
use mathlib.Core.List.{List}
use mathlib.Core.Path.{◌≡◌, refl}
use Rattle.std.specs.Prelude.{Result, Ok, Err}
use Rattle.board.specs.Work.{Size}
use Rattle.board.specs.Exec.{Saw}
use Rattle.board.specs.declared.Blank.{Blank}
use Rattle.board.proofs.Laws.{saw-then, saw-fail, saw-give}
use Rattle.state.specs.declared.State.{State}
use Rattle.state.specs.State.{reg}
use Rattle.operand.specs.declared.Place.{Place}
use Rattle.operand.specs.Operand.{increment_of, locate, moved, read_of}
use Rattle.operand.proofs.Laws.Operand.{address_of, decoded, undecoded, read-address}
use Rattle.operand.specs.Destination.{holding, operand_of}

-- ---- how code comes to it, of words and of bytes alike

module _ {map m : List ℕ} (z : Size) (s : State) (mode k : ℕ) {step r : ℕ} {q : Result Place Blank} where
  -- no place was found
  pub never-found : {b : Blank} → step ≡ increment_of z k → r ≡ reg s k → Saw map (locate step k r s.regs.pc mode) m q → q ≡ Err b
      → Saw map (operand_of z s mode k) m (Err b)
  unfolding operand_of
  never-found d e g h = saw-fail _ (undecoded z s mode k d e g h) refl refl

  module _ {t : State} {p : Place} {x : ℕ} {u : Result ℕ Blank} where
    -- a place was found, and reading there, where t is the state and x what the register then holds, gave nothing: what is told is the
    -- operand's own address
    pub never-read : {b : Blank} → step ≡ increment_of z k → r ≡ reg s k → Saw map (locate step k r s.regs.pc mode) m q → q ≡ Ok p → t ≡ moved s p
        → x ≡ reg t k → Saw map (read_of z x p) m u → u ≡ Err b → Saw map (operand_of z s mode k) m (Err b) × (b.at ≡ address_of p)
    unfolding operand_of
    never-read d e g h i j w v = (saw-then _ (decoded z s mode k d e g h i) refl (saw-fail _ (rw j at w) v refl), read-address z x p w v)

    -- a place was found, and the value there
    pub held : {v : ℕ} → step ≡ increment_of z k → r ≡ reg s k → Saw map (locate step k r s.regs.pc mode) m q → q ≡ Ok p → t ≡ moved s p
        → x ≡ reg t k → Saw map (read_of z x p) m u → u ≡ Ok v → Saw map (operand_of z s mode k) m (Ok (holding t p v))
    unfolding operand_of
    held d e g h i j w v = saw-then _ (decoded z s mode k d e g h i) refl (saw-then _ (rw j at w) v saw-give)
