-- What a decode, a read and a write of an operand come to, answered or not.
use Prim.Native.Nat.{ℕ}
use mathlib.Core.List.{List, []}
use mathlib.Core.Path.{◌≡◌, refl, sym, ap, ◌∙◌}
use Rattle.board.specs.Work.{Work, Size}
use Rattle.board.specs.Work as Work
use Rattle.std.specs.Prelude.{Result, Ok, Err}
use Rattle.std.specs.Result.{IsErrAnd}
use native.Mathlib.Omega.{arith}
use Rattle.board.specs.Exec.{Store, beside, Now, good, gone, exec, answer_as, Board, Got, Saw, Did}
use Rattle.board.specs.declared.Blank.{Blank}
use Rattle.board.proofs.Laws.{got-then, got-gone, got-give, unread-at, unwritten_at, saw-then, saw-fail, saw-give, did, did-fail}
use Rattle.state.specs.declared.State.{State}
use Rattle.state.specs.State.{reg}
use Rattle.operand.specs.declared.Place.{Place}
use Rattle.operand.specs.declared.Place.TheVariants.{Reg, Mem}
use Rattle.operand.specs.Operand.{increment_of, locate, moved, decoded_to, decode, read_of, with_part, write_to}

-- ---- how code comes to an operand, of words and of bytes alike

module _ {map m : List ℕ} (z : Size) (s : State) (mode k : ℕ) {step r : ℕ} {q : Result Place Blank} where
  -- `locate` was asked by the register's number, what it holds, and the increment
  pub located : step ≡ increment_of z k → r ≡ reg s k → Saw map (locate step k r s.regs.pc mode) m q → Saw map (locate (increment_of z k) k (reg s k) s.regs.pc mode) m q
  located d e g = rw (d, e) at g

  -- a place that was found decodes the operand
  pub decoded : {t : State} {p : Place} → step ≡ increment_of z k → r ≡ reg s k → Saw map (locate step k r s.regs.pc mode) m q → q ≡ Ok p → t ≡ moved s p
      → Saw map (decode z s mode k) m (Ok (decoded_to t k p))
  unfolding decode
  decoded d e g h i = saw-then _ (located d e g) h (rw i saw-give)

  pub undecoded : {b : Blank} → step ≡ increment_of z k → r ≡ reg s k → Saw map (locate step k r s.regs.pc mode) m q → q ≡ Err b
      → Saw map (decode z s mode k) m (Err b)
  unfolding decode
  undecoded d e g h = saw-fail _ (located d e g) h refl

-- the address of an operand in memory
abbrev pub address_of : Place → ℕ
address_of Reg = 0
address_of (Mem a which w) = a

-- a read that was not answered was of an operand in memory, and at its address
pub unread-operand : {map : List ℕ} (z : Size) (x : ℕ) (p : Place) {st st₁ : Store} {r : Now ℕ} {b : ℕ} → Got map (read_of z x p) st r → r ≡ gone b st₁ → r ≡ gone (address_of p) st₁
unfolding read_of exec
unread-operand z x Reg g e = let h = g.came in let o : ◌≡◌ {A = ℕ} 0 1 = cc in absurd (omega arith)
unread-operand z x (Mem a which w) g e = unread-at g e

-- the address that was reached
abbrev reached : {A : Type 0} → Now A → ℕ
reached (good x st) = 0
reached (gone a st) = a

-- so the blank that a function tells of its read is at the operand's address
pub read-address : {map m : List ℕ} (z : Size) (x : ℕ) (p : Place) {u : Result ℕ Blank} {b : Blank} → Saw map (read_of z x p) m u → u ≡ Err b → b.at ≡ address_of p
read-address {m = m} z x p g e =
    let h = ap (λ q. answer_as q (beside m [])) e in
    ap reached (sym h ∙ unread-operand z x p (g.got {l = []}) h)

-- ---- how code leaves a value there

pub left-in-register : {map : List ℕ} (z : Size) (s : State) (k v : ℕ) {st : Store} {t : State} → t ≡ with_part z s k v → Got map (write_to z s k Reg v) st (good t st)
unfolding write_to
left-in-register z s k v e = got-give e

module _ {map : List ℕ} (z : Size) (s : State) (k a which w v : ℕ) {st st₁ : Store} {r : Now (Unit {0})} where
  pub left-in-memory : Got map (Work.write z a v) st r → r ≡ good tt st₁ → Got map (write_to z s k (Mem a which w) v) st (good s st₁)
  unfolding write_to
  left-in-memory g e = got-then _ g e (got-give refl)

  pub not_left : {b : ℕ} → Got map (Work.write z a v) st r → r ≡ gone b st₁ → Got map (write_to z s k (Mem a which w) v) st (gone a st₁)
  unfolding write_to
  not_left g e = got-gone _ g (unwritten_at g e) refl

-- the same as a function that writes promises it, with the board after

pub did-in-register : {map : List ℕ} (z : Size) (s : State) (k v : ℕ) {st : Store} {t : State} → Board map st → t ≡ with_part z s k v → Did map (write_to z s k Reg v) st (Ok t) st
did-in-register z s k v b e = did b (left-in-register z s k v e)

module _ {map : List ℕ} (z : Size) (s : State) (k a which w v : ℕ) {st st₁ : Store} {q : Result (Unit {0}) Blank} where
  pub did-in-memory : Did map (Work.write z a v) st q st₁ → q ≡ Ok tt → Did map (write_to z s k (Mem a which w) v) st (Ok s) st₁
  did-in-memory d e = record { got = left-in-memory z s k a which w v d.got (ap (λ x. answer_as x st₁) e); board = d.board }

  pub did-not-left : {b : Blank} {r : Result State Blank} → Did map (Work.write z a v) st q st₁ → q ≡ Err b → IsErrAnd r (λ y. y ≡ b) → Did map (write_to z s k (Mem a which w) v) st r st₁
  unfolding write_to
  did-not-left d e h = did-fail _ d e h
