-- A call for C that looks at its answer's room first, or at other bytes: refused by that, or what the call is without it.
use mathlib.Core.Bool.{Bool, true, false, cond}
use mathlib.Core.List.{List}
use mathlib.Core.Path.{◌≡◌, refl, sym, ap, ◌∙◌}
use native.Mathlib.Omega.{arith}
use Prim.Native.Nat.{ℕ}
use lib.Dec.{eqb}
use lib.ListN.{length}
use borrow.Author.Tests.{eqb-true}
use Rattle.refusal.specs.Numbers.{no_state}
use Rattle.refusal.specs.Page.{Left, call, Told, told, reading_at}
use Rattle.refusal.proofs.Laws.Page.{call-refused, call-answered}
use Rattle.answer.specs.Answer.{answer_why, SixBytes}

module _ {A B C : Type 0} (bytes : A → B → C) (beside : ℕ → B → C) (kept : B → C) (why n : ℕ) (l : Left A B) (lent : B) (h : n ≡ why) where
  pub bad : (n ≡ 0 → ⊥) → told n (kept lent) ≡ reading_at bytes beside kept (call why l lent)
  bad k = ap (λ z. reading_at bytes beside kept z) (call-refused why l lent n h k)

  pub given : n ≡ 0 → (x : Told C) → x ≡ reading_at bytes beside kept l → x ≡ reading_at bytes beside kept (call why l lent)
  given none x e = e ∙ ap (λ z. reading_at bytes beside kept z) (call-answered why l lent l (sym h ∙ none) refl)

-- an answer that is not refused has its room
pub room : (a : List ℕ) (n : ℕ) → n ≡ answer_why a → n ≡ 0 → SixBytes a
unfolding answer_why
room a n h none = record { six = by (eqb (length a) 6) refl (sym h ∙ none) }
  where
    by : (b : Bool) → eqb (length a) 6 ≡ b → cond b 0 no_state ≡ 0 → length a ≡ 6
    by true e k = eqb-true _ _ e
    by false e k = absurd (omega (arith, k))
