-- One answer of the reader, and one list of words: no two meet what `Reads` says of a text.
use Rattle.std.proofs.Common.{◌≡◌, ℕ, suc, ◌<◌, ◌≤◌, List, length, take, sym, ap, ◌∙◌, subst, arith, take-take}
use native.Mathlib.Decide.{dec_lt}
use Rattle.hexdigits.specs.Over.{in_front_of}
use Rattle.optext.specs.Line.{text_of}
use Rattle.refusal.specs.Page.{Page, refused, refused_at, answered}
use Rattle.optext.specs.Column.{Begins, Column, Why, early, after, name, operand}
use Rattle.optext.specs.Words.{Reads}
use Rattle.optext.proofs.Laws.Choose.{no as unlike}

pub not-less : (n : ℕ) → 3 ≤ n → n < 3 → ⊥
not-less n a b = omega arith

-- one column, and one number
begins-less : (m n : ℕ) (t : List ℕ) → m ≤ n → Begins n t → Begins m t
begins-less m n t h b = record {
  words = b.words;
  whole = b.whole;
  text = sym (take-take m n (text_of b.words) h) ∙ ap (λ (l : List ℕ). take m l) b.text ∙ take-take m n t h;
}

pub one-column : (t : List ℕ) (c d : ℕ) → Column t c → Column t d → c ≡ d
one-column t c d p q =
    let a = p.within in
    let b = q.within in
    elim (dec_lt c d) [
      | yes l ↦ absurd (p.stops (omega arith) (begins-less (suc c) d t (omega arith) q.begins))
      | no l ↦
          elim (dec_lt d c) [ yes m ↦ absurd (q.stops (omega arith) (begins-less (suc d) c t (omega arith) p.begins)) | no m ↦ omega arith ]
    ]

not-less-self : (m n : ℕ) → m ≡ n → m < n → ⊥
not-less-self m n e l = omega arith

pub one-why : (t : List ℕ) (c m n : ℕ) → Why t c m → Why t c n → m ≡ n
one-why t c m n (early e p) (early f q) = e ∙ sym f
one-why t c m n (early e p) (after f q i) = absurd (not-less-self c (length t) p q)
one-why t c m n (early e p) (name f q i s) = absurd (not-less-self c (length t) p q)
one-why t c m n (early e p) (operand f q i s) = absurd (not-less-self c (length t) p q)
one-why t c m n (after e p i) (early f q) = absurd (not-less-self c (length t) q p)
one-why t c m n (after e p i) (after f q j) = e ∙ sym f
one-why t c m n (after e p i) (name f q j s) = absurd (j i)
one-why t c m n (after e p i) (operand f q j s) = absurd (j i)
one-why t c m n (name e p i s) (early f q) = absurd (not-less-self c (length t) q p)
one-why t c m n (name e p i s) (after f q j) = absurd (i j)
one-why t c m n (name e p i s) (name f q j u) = e ∙ sym f
one-why t c m n (name e p i s) (operand f q j u) = absurd (unlike (sym u ∙ s))
one-why t c m n (operand e p i s) (early f q) = absurd (not-less-self c (length t) q p)
one-why t c m n (operand e p i s) (after f q j) = absurd (i j)
one-why t c m n (operand e p i s) (name f q j u) = absurd (unlike (sym s ∙ u))
one-why t c m n (operand e p i s) (operand f q j u) = e ∙ sym f

-- THE READER HAS ONE OUTCOME
pub reads-one : (t ws e e' : List ℕ) (a a' : Page ℕ) → Reads a t ws e → Reads a' t ws e' → (a ≡ a') × (e ≡ e')
reads-one t ws e e' (answered n) (answered m) p q =
    let s : take n e ≡ take m e' = q.only (take n e) p.whole p.text in
    let k : n ≡ m = p.count ∙ ap length s ∙ sym q.count in
    (ap answered k, p.rest ∙ ap (λ (l : List ℕ). in_front_of l ws) s ∙ sym q.rest)
reads-one t ws e e' (answered n) (refused r) p q = absurd (not-less (length ws) p.room q.1.room)
reads-one t ws e e' (refused r) (answered n) p q = absurd (not-less (length ws) q.room p.1.room)
reads-one t ws e e' (answered n) (refused_at r c) p q = absurd (q.none (record { words = take n e; whole = p.whole; text = p.text }))
reads-one t ws e e' (refused_at r c) (answered n) p q = absurd (p.none (record { words = take n e'; whole = q.whole; text = q.text }))
reads-one t ws e e' (refused r) (refused s) p q = (ap refused (p.0 ∙ sym q.0), p.1.same ∙ sym q.1.same)
reads-one t ws e e' (refused r) (refused_at s d) p q = absurd (not-less (length ws) q.room p.1.room)
reads-one t ws e e' (refused_at r c) (refused s) p q = absurd (not-less (length ws) p.room q.1.room)
reads-one t ws e e' (refused_at r c) (refused_at s d) p q =
    let z : c ≡ d = one-column t c d p.column q.column in
    let y : r ≡ s = one-why t c r s p.why (subst (λ (i : ℕ). Why t i s) (sym z) q.why) in
    (ap (λ (i : ℕ). refused_at i c) y ∙ ap (λ (i : ℕ). refused_at s i) z, p.same ∙ sym q.same)
