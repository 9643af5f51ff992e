-- Demand 1 for the text of an op code that is read: from what the reader promises.
use Prim.Native.Nat.{ℕ}
use mathlib.Core.Bool.{Bool, true, false, cond}
use mathlib.Core.List.{List}
use mathlib.Core.Path.{◌≡◌, refl}
use native.Mathlib.Omega.{arith}
use borrow.Author.Tests.{le-ltb, lt-ltb}
use lib.Dec.{eqb}
use lib.ListN.{length, take}
use Rattle.refusal.specs.Numbers.{no_state, words_odd}
use Rattle.refusal.specs.Page.{Page, refused, refused_at, answered, left, first}
use Rattle.answer.specs.Answer.{answer_why}
use Rattle.optext.specs.Column.{Column, Why, early, after, name, operand}
use Rattle.optext.specs.Words.{Reads}
use Rattle.optext_c.specs.Calls.{odd_length, lent_why}
use Rattle.demands.specs.Terms.{number_alone, place_too, words_why, is_text, no_text, OwnWhy, tells_column}
use Rattle.demands.specs.Demand1.{is_answer, KeptAt}

pub why-tells : {t : List ℕ} {c : ℕ} (n : ℕ) → Why t c n → (n ≡ 0 → ⊥) × (tells_column n ≡ true)
why-tells n (early e p) = (λ z. omega (arith, e, z), rw e refl)
why-tells n (after e p i) = (λ z. omega (arith, e, z), rw e refl)
why-tells n (name e p i s) = (λ z. omega (arith, e, z), rw e refl)
why-tells n (operand e p i s) = (λ z. omega (arith, e, z), rw e refl)

pub reads_kept : (t ws e : List ℕ) (a : Page ℕ) → Reads a t ws e → OwnWhy (words_why ws) t (λ why. KeptAt why tells_column (λ n. Column t) ws (left a e))
reads_kept t ws e (answered n) p = rw (le-ltb (length ws) 3 p.room) (record {
  own = 0;
  of_text = λ z. is_text refl (record { words = take n e; whole = p.whole; text = p.text });
  holds = record { refused_only = λ k. absurd (k refl); not_refused = λ z. is_answer n };
})
reads_kept t ws e (refused r) p = rw (lt-ltb (length ws) 3 p.1.room) (record {
  own = 0;
  of_text = λ z. absurd (omega (arith, z));
  holds = record { refused_only = λ k. number_alone refl (rw (p.0, p.1.same) refl); not_refused = λ z. absurd (omega (arith, z)) };
})
reads_kept t ws e (refused_at r c) p = rw (le-ltb (length ws) 3 p.room) (record {
  own = r;
  of_text = λ z. no_text c p.none p.column p.why;
  holds = record { refused_only = λ k. place_too (why-tells r p.why).1 c p.column (rw p.same refl); not_refused = λ z. absurd ((why-tells r p.why).0 z) };
})

-- 21 and 38 tell no column
pub lent-alone : (a b : List ℕ) → tells_column (lent_why a b) ≡ false
unfolding lent_why answer_why
lent-alone a b = by (eqb (length a) 6) (odd_length b)
  where
    by : (six uneven : Bool) → tells_column (first (cond six 0 no_state) (cond uneven words_odd 0)) ≡ false
    by false uneven = refl
    by true true = refl
    by true false = refl
