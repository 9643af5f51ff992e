-- MOV and MOVB need not read their destination: a read whose value isn't used, and then a write at the same address, come to the write alone.
use Prim.Native.Nat.{ℕ, ◌/◌}
use native.Mathlib.Omega.{arith}
use mathlib.Core.Bool.{Bool, true, false}
use mathlib.Core.List.{List}
use mathlib.Core.Path.{◌≡◌, refl, sym, ap, ◌∙◌}
use lib.Dec.{ltb}
use borrow.Author.Tests.{le-ltb}
use Rattle.opcodes.specs.declared.Binary.TheVariants.{Mov}
use Rattle.opcodes.specs.declared.ByteBinary.TheVariants.{Movb}
use Rattle.board.specs.Work.{Work, Size, word, byte, fitted, get, ◌>>=◌}
use Rattle.board.specs.Exec.{Store, Now, good, gone, exec, Got}
use Rattle.board.proofs.Laws.{got-then, got-gone, got-give, got_read, got-unread, got-lost}
use Rattle.board.proofs.Laws.Alike.{unfitted-unwritable}
use Rattle.state.specs.declared.State.{State}
use Rattle.operand.specs.declared.Place.{Place}
use Rattle.operand.specs.declared.Place.TheVariants.{Reg, Mem}
use Rattle.operand.specs.Operand.{decode, decoded_to, read_of, write_to}
use Rattle.operand.proofs.Laws.Operand.{not_left}
use Rattle.operand.specs.declared.Held.{Held}
use Rattle.operand.specs.Destination.{holding, operand_of}
use Rattle.format10.specs.Format10.{binary_code, byte_code, move_byte}

-- a write to an operand in memory whose page isn't fitted
unwritten : (map : List ℕ) (z : Size) (s : State) (k a which w v : ℕ) {st : Store} → fitted map a ≡ false → exec map (write_to z s k (Mem a which w) v) st ≡ gone a st
unwritten map z s k a which w v e = sym (not_left z s k a which w v (got-lost z a (rw (unfitted-unwritable map a e))) refl).came

module _ {map : List ℕ} {st : Store} (z : Size) (s : State) (mode k : ℕ) (F : Held → Work State) (W : Work State) (u : State) (v : ℕ) where
  -- the work after the operand is read is W, whatever was read; and where the operand is in memory W writes there
  pub placed : {t : State} (p : Place) {r : Now State}
      → Got map (decode z s mode k) st (good (decoded_to t k p) st)
      → ((y : ℕ) → F (holding t p y) ≡ W)
      → ((a which w : ℕ) → p ≡ Mem a which w → W ≡ write_to z u k (Mem a which w) v)
      → Got map W st r
      → Got map (operand_of z s mode k >>= F) st r
  unfolding operand_of read_of
  placed Reg d f n g = got-then F (got-then _ d refl (got-then _ (got-give refl) refl (got-give refl))) refl (rw (f _) g)
  placed {t = t} (Mem a which w) {r = r} d f n g = either (fitted map a) refl
    where
      either : (b : Bool) → fitted map a ≡ b → Got map (operand_of z s mode k >>= F) st r
      either true e = got-then F (got-then _ d refl (got-then _ (got_read z a e refl) refl (got-give refl))) refl (rw (f (get z st.image a)) g)
      either false e = got-gone F (got-then _ d refl (got-gone _ (got-unread z a e) refl refl)) refl (g.came ∙ ap (λ x. exec map x st) (n a which w refl) ∙ unwritten map z u k a which w v e)

-- ---- which op codes they are

pub mov-code : (op : ℕ) → op / 4096 ≡ 11 → binary_code op ≡ Mov
mov-code op e = let h : ltb op 0x8000 ≡ false = le-ltb op 0x8000 (omega arith) in rw (h, e)

pub movb-code : (op : ℕ) → op / 4096 ≡ 13 → byte_code op ≡ Movb
movb-code op e = rw e

-- MOVB to memory writes the byte
pub byte-there : (s : State) (k v a which w : ℕ) (p : Place) → p ≡ Mem a which w → move_byte s k p v ≡ write_to byte s k (Mem a which w) v
unfolding move_byte
byte-there s k v a which w p e = rw e

pub word-there : (s : State) (k v a which w : ℕ) (p : Place) → p ≡ Mem a which w → write_to word s k p v ≡ write_to word s k (Mem a which w) v
word-there s k v a which w p e = ap (λ q. write_to word s k q v) e
