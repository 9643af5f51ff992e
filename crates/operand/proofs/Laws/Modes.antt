-- The modes as the code goes through them, 1 to 5 in one, 6 and 7 in one, are `locate`.
use Prim.Native.Nat.{ℕ, zero, suc, ◌≤◌, ◌<◌}
use native.Mathlib.Nat.{le_of_suc-le-suc, not-suc-le-zero}
use native.Mathlib.Omega.{arith}
use mathlib.Core.Bool.{Bool}
use mathlib.Core.List.{[], ◌∷◌}
use mathlib.Core.Path.{◌≡◌, refl, ap}
use borrow.Author.Tests.{lt-ltb}
use lib.ListN.{get_or-eq_default}
use Rattle.operand.specs.Operand.{direct, indirect, increment, increment_deferred, decrement, decrement_deferred, indexed, indexed_deferred, locate, index_base}
use Rattle.operand.specs.Modes.{defers, stride, pointer, beyond, through, pointed}
use lib.Dec.{ltb}
use Rattle.board.specs.Work.{Work, load, ◌>>=◌}
use Rattle.wordmath.specs.Address.{plus}
use Rattle.operand.specs.declared.Place.{Place}

-- modes 6 and 7 in one: the sum with the next word is the operand's address, or the address of its address
unfoldable pub indexed_by : ℕ → ℕ → ℕ → ℕ → Work Place
indexed_by k r pc mode = do
  x ← load pc
  through (ltb 6 mode) (plus (index_base k r pc) x) 7 (plus pc 2)

pub pointed-is : (step k r mode : ℕ) {by at next : ℕ} {b : Bool}
    → by ≡ stride step mode → at ≡ pointer r by mode → next ≡ beyond at by mode → defers mode ≡ b
    → pointed step k r mode ≡ through b at k next
unfolding pointed
pointed-is step k r mode e f g h =
    rw (g, f, e)
    (ap (λ z. through z (pointer r (stride step mode) mode) k (beyond (pointer r (stride step mode) mode) (stride step mode) mode)) h)

pub locate-pointed : (step k r pc mode : ℕ) → 1 ≤ mode → mode < 6 → locate step k r pc mode ≡ pointed step k r mode
unfolding locate pointed increment_deferred decrement_deferred
locate-pointed step k r pc zero l h = absurd (not-suc-le-zero l)
locate-pointed step k r pc (suc zero) l h = refl
locate-pointed step k r pc (suc (suc zero)) l h = refl
locate-pointed step k r pc (suc (suc (suc zero))) l h = refl
locate-pointed step k r pc (suc (suc (suc (suc zero)))) l h = refl
locate-pointed step k r pc (suc (suc (suc (suc (suc zero))))) l h = refl
locate-pointed step k r pc (suc (suc (suc (suc (suc (suc m)))))) l h =
    absurd (not-suc-le-zero (le_of_suc-le-suc (le_of_suc-le-suc (le_of_suc-le-suc (le_of_suc-le-suc (le_of_suc-le-suc (le_of_suc-le-suc h)))))))

-- a mode other than 0 to 6
locate-last : (step k r pc mode : ℕ) → 7 ≤ mode → locate step k r pc mode ≡ indexed_deferred step k r pc
unfolding locate
locate-last step k r pc mode h =
    get_or-eq_default
    (direct step k r pc ∷ indirect step k r pc ∷ increment step k r pc ∷ increment_deferred step k r pc ∷ decrement step k r pc ∷ decrement_deferred step k r pc ∷ indexed step k r pc ∷ [])
    (indexed_deferred step k r pc)
    h

pub locate-offset : (step k r pc mode : ℕ) → 6 ≤ mode → locate step k r pc mode ≡ indexed_by k r pc mode
unfolding locate indexed_by indexed indexed_deferred
locate-offset step k r pc zero h = absurd (not-suc-le-zero h)
locate-offset step k r pc (suc zero) h = absurd (not-suc-le-zero (le_of_suc-le-suc h))
locate-offset step k r pc (suc (suc zero)) h = absurd (not-suc-le-zero (le_of_suc-le-suc (le_of_suc-le-suc h)))
locate-offset step k r pc (suc (suc (suc zero))) h = absurd (not-suc-le-zero (le_of_suc-le-suc (le_of_suc-le-suc (le_of_suc-le-suc h))))
locate-offset step k r pc (suc (suc (suc (suc zero)))) h = absurd (not-suc-le-zero (le_of_suc-le-suc (le_of_suc-le-suc (le_of_suc-le-suc (le_of_suc-le-suc h)))))
locate-offset step k r pc (suc (suc (suc (suc (suc zero))))) h =
    absurd (not-suc-le-zero (le_of_suc-le-suc (le_of_suc-le-suc (le_of_suc-le-suc (le_of_suc-le-suc (le_of_suc-le-suc h))))))
locate-offset step k r pc (suc (suc (suc (suc (suc (suc zero)))))) h = refl
locate-offset step k r pc (suc (suc (suc (suc (suc (suc (suc m))))))) h =
    rw (lt-ltb 6 (suc (suc (suc (suc (suc (suc (suc m))))))) (omega arith))
    (locate-last step k r pc (suc (suc (suc (suc (suc (suc (suc m))))))) (omega arith))
