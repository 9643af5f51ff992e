-- No two outcomes of a call for C: the number, and every lent byte.
use Prim.Native.Nat.{ℕ, zero, suc}
use mathlib.Core.List.{List}
use mathlib.Core.Path.{◌≡◌, refl, ap, sym, ◌∙◌}
use Rattle.refusal.specs.Page.{Page, left, call, Told}
use Rattle.optext.specs.Words.{Reads}
use Rattle.optext.proofs.Laws.Once.{reads-one}
use Rattle.optext_c.specs.Calls.{words_in, lent_why, write_call, words_read, ReadCall}

-- WRITING HAS ONE OUTCOME
pub one_written : (b t a : List ℕ) (x y : Told (List ℕ × List ℕ)) → x ≡ write_call b t a → y ≡ write_call b t a → x ≡ y
one_written b t a x y p q = p ∙ sym q

-- READING HAS ONE OUTCOME
pub one-read : (t b a : List ℕ) (x y : Told (List ℕ × List ℕ)) → ReadCall t b a x → ReadCall t b a y → x ≡ y
one-read t b a x y p q = by (lent_why a b) p.reads q.reads p.leaves q.leaves
  where
    by : (why : ℕ) → (why ≡ 0 → Reads p.page t (words_in b) p.words) → (why ≡ 0 → Reads q.page t (words_in b) q.words)
        → x ≡ words_read b a (call why (left p.page p.words) (words_in b)) → y ≡ words_read b a (call why (left q.page q.words) (words_in b)) → x ≡ y
    by zero r s e d =
        let z = reads-one t (words_in b) p.words q.words p.page q.page (r refl) (s refl) in
        e ∙ ap (λ (n : Page ℕ). words_read b a (left n p.words)) z.0 ∙ ap (λ (l : List ℕ). words_read b a (left q.page l)) z.1 ∙ sym d
    by (suc why) r s e d = e ∙ sym d
