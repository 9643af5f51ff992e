-- From the code's facts to what the exported calls leave.
use Prim.Native.Nat.{ℕ}
use mathlib.Core.List.{List}
use mathlib.Core.Path.{◌≡◌, refl, ap, ◌∙◌}
use Rattle.std.proofs.Common.{Result, Err}
use Rattle.refusal.specs.declared.Refusal.{Refusal}
use Rattle.refusal.specs.Answer.{number}
use Rattle.assembler.specs.declared.SourceRefusal.{SourceRefusal}
use Rattle.assembler.specs.declared.SourceRefusal.TheVariants.{Whole, At}
use Rattle.refusal.specs.Page.{Left, left, call, Told, told}
use Rattle.answer.specs.Answer.{three_words, place_words, answer_why, answering}
use Rattle.answer.proofs.Laws.{bad, given}
use Rattle.assembler.specs.Answer.{assembled_page, asm_of}
use Rattle.assembler.specs.Labels.{labels_page}
use Rattle.assembler_c.specs.Call.{size_words, assemble_call, labels_call}

-- ---- what is told of a refusal

pub tell-whole : (r : Result ℕ SourceRefusal) (w : SourceRefusal) (why : Refusal) → r ≡ Err w → w ≡ Whole why → (n : ℕ) → n ≡ number why → (b out : List ℕ)
    → told n (out, b) ≡ answering size_words b (left (assembled_page r) out)
tell-whole r w why p q n e b out = rw (e, p, q) refl

pub tell-at : (r : Result ℕ SourceRefusal) (w : SourceRefusal) (why : Refusal) (line : ℕ) → r ≡ Err w → w ≡ At why line → (n : ℕ) → n ≡ number why → (b b' : List ℕ)
    → b' ≡ three_words 0 0 line → (out : List ℕ) → told n (out, b') ≡ answering size_words b (left (assembled_page r) out)
tell-at r w why line p q n e b b' d out = rw (e, p, q, d) refl

-- ---- either call

module _ (out b : List ℕ) (n : ℕ) (h : n ≡ answer_why b) (l : Left ℕ (List ℕ)) where
  looked-bad : (n ≡ 0 → ⊥) → told n (out, b) ≡ answering size_words b (call (answer_why b) l out)
  looked-bad some = bad (λ k o. (o, size_words k)) (λ line o. (o, place_words line)) (λ o. (o, b)) (answer_why b) n l out h some

  looked : n ≡ 0 → (x : Told (List ℕ × List ℕ)) → x ≡ answering size_words b l → x ≡ answering size_words b (call (answer_why b) l out)
  looked none x e = given (λ k o. (o, size_words k)) (λ line o. (o, place_words line)) (λ o. (o, b)) (answer_why b) n l out h none x e

-- ---- an assembly

module _ (s out b : List ℕ) (n : ℕ) (h : n ≡ answer_why b) where
  pub assemble-bad : (n ≡ 0 → ⊥) → told n (out, b) ≡ assemble_call s out b
  unfolding assemble_call
  assemble-bad some = looked-bad out b n h (asm_of s out) some

  pub assemble-told : n ≡ 0 → (l : Left ℕ (List ℕ)) (x : Told (List ℕ × List ℕ)) → l ≡ asm_of s out → x ≡ answering size_words b l → x ≡ assemble_call s out b
  unfolding assemble_call
  assemble-told none l x e q = looked out b n h (asm_of s out) none x (q ∙ ap (λ (z : Left ℕ (List ℕ)). answering size_words b z) e)

-- ---- the labels

module _ (s out b : List ℕ) (n : ℕ) (h : n ≡ answer_why b) where
  pub labels-bad : (n ≡ 0 → ⊥) → told n (out, b) ≡ labels_call s out b
  unfolding labels_call
  labels-bad some = looked-bad out b n h (labels_page s out) some

  pub labels-told : n ≡ 0 → (l : Left ℕ (List ℕ)) (x : Told (List ℕ × List ℕ)) → l ≡ labels_page s out → x ≡ answering size_words b l → x ≡ labels_call s out b
  unfolding labels_call
  labels-told none l x e q = looked out b n h (labels_page s out) none x (q ∙ ap (λ (z : Left ℕ (List ℕ)). answering size_words b z) e)
