-- Words by value: what is stored in three zeros, read back one by one.
use Rattle.std.proofs.Common.{◌≡◌, ℕ, ◌<◌, ◌≤◌, Bool, true, false, cond, ◌&&◌, eqb, List, [], ◌∷◌, Some, None, length, get_or, sym, refl, ap, ◌∙◌, subst, append-nil, arith, length-append, eq-eqb, eqb-true}
use Rattle.hexdigits.specs.Over.{in_front_of, Wrote}
use Rattle.optext.specs.declared.reading.Guess.{Guess}
use Rattle.optext.specs.First.{agree}
use Rattle.optext.specs.Rows.{first_of, second_of}
use Rattle.optext.specs.Line.{row_of, takes, op_text}
use Rattle.optext.specs.Guess.{guess_of}
use Rattle.optext.specs.Words.{own, words_of}
use Rattle.optext.specs.Column.{IsText}
use Rattle.optext.specs.Read.{same_text, words_of_text, op_of, op_or_none}
use Rattle.optext.proofs.Laws.Read.{same_refl, same-eq, same-is}
use Rattle.optext.proofs.Laws.Choose.{no}
use Rattle.optext.proofs.Laws.Near.{agree-self}
use Rattle.optext.proofs.Laws.Furthest.{lt-w, lt-x, lt-y}
use Rattle.optext.proofs.Laws.Meets.{text-words, whole_words}
use Rattle.optext.proofs.Laws.Columns.{guess_line, same-text, own_line}
use Rattle.optext.proofs.Laws.Reader.{read-of-text, read-refuses}

-- texts that agree to the end of both
both_true : (a b : Bool) → (a && b) ≡ true → (a ≡ true) × (b ≡ true)
both_true true true e = (refl, refl)
both_true true false e = absurd (no (sym e))
both_true false b e = absurd (no (sym e))

pub same_ends : (t p : List ℕ) (c n : ℕ) → c ≡ agree t p → n ≡ length p → (eqb c (length t) && eqb c n) ≡ same_text p t
same_ends t p c n e f = same-is _ p t (λ h. there (both_true _ _ h)) (λ h. back h)
  where
    there : (eqb c (length t) ≡ true) × (eqb c n ≡ true) → p ≡ t
    there h = same-text t p (sym e ∙ eqb-true c (length t) h.0) (sym e ∙ eqb-true c n h.1 ∙ f)

    self : agree t t ≡ length t
    self = subst (λ (s : List ℕ). agree s t ≡ length t) (append-nil t) (agree-self t [])

    back : p ≡ t → (eqb c (length t) && eqb c n) ≡ true
    back h =
        let k : c ≡ length t = e ∙ ap (λ (l : List ℕ). agree t l) h ∙ self in
        let m : c ≡ n = k ∙ sym (f ∙ ap length h) in
        rw (eq-eqb c (length t) k, eq-eqb c n m) refl

abbrev zeros : List ℕ
zeros = 0 ∷ 0 ∷ 0 ∷ []

op-over : (ws : List ℕ) → op_of ws ≡ record { count = length ws; a = get_or (in_front_of ws zeros) 0 0; b = get_or (in_front_of ws zeros) 1 0; c = get_or (in_front_of ws zeros) 2 0 }
unfolding in_front_of
op-over [] = refl
op-over (a ∷ []) = refl
op-over (a ∷ b ∷ []) = refl
op-over (a ∷ b ∷ c ∷ l) = refl

own-le : (n x : ℕ) → length (own n x) ≤ 1
unfolding own
own-le n x = go (eqb n 1)
  where
    go : (t : Bool) → length (cond t (x ∷ []) []) ≤ 1
    go true = omega arith
    go false = omega arith

pub words-le : (w x y : ℕ) → length (words_of w x y) ≤ 3
unfolding words_of
words-le w x y =
    let p = own-le (takes (first_of (row_of w)) w) x in
    let q = own-le (takes (second_of (row_of w)) w) y in
    simp length-append (omega arith)

module _ (t : List ℕ) (g : Guess) (p : g ≡ guess_of t) (b : Bool) (q : b ≡ same_text (op_text g.w g.x g.y) t) where
  pub op-taken : (e : List ℕ) (n : ℕ) → b ≡ true → Wrote (words_of g.w g.x g.y) zeros e n
      → Some (record { count = n; a = get_or e 0 0; b = get_or e 1 0; c = get_or e 2 0 }) ≡ op_or_none (words_of_text t)
  unfolding words_of
  op-taken e n h v =
      let s : op_text g.w g.x g.y ≡ t = same-eq _ t (sym q ∙ h) in
      let lw : g.w < 65536 = rw p (lt-w t) in
      let r : words_of_text t ≡ words_of g.w g.x g.y =
      ap words_of_text (sym (text-words g.w g.x g.y lw ∙ s)) ∙ read-of-text (words_of g.w g.x g.y) (whole_words g.w g.x g.y lw (rw p (lt-x t)) (rw p (lt-y t))) in
      rw (r, v.bytes, v.count) (sym (ap Some (op-over (words_of g.w g.x g.y))))

  pub op-refused : b ≡ false → None ≡ op_or_none (words_of_text t)
  unfolding guess_line
  op-refused h = rw (read-refuses t none) refl
    where
      same : IsText t → op_text g.w g.x g.y ≡ t
      same i = ap (λ (z : Guess). op_text z.w z.x z.y) p ∙ own_line t i

      none : IsText t → ⊥
      none i = no (sym (ap (λ (l : List ℕ). same_text l t) (same i) ∙ same_refl t) ∙ sym q ∙ h)
