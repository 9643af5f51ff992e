-- The guess at a line is the line's words.
use Rattle.std.proofs.Common.{◌≡◌, ℕ, suc, ◌+◌, ◌%◌, ◌^◌, ◌<◌, true, false, List, [], ◌∷◌, ◌++◌, length, drop, sym, refl, ◌∙◌, ⊎_elim, append_assoc, append-nil, arith}
use lib.Seq.{drop-append-add}
use Rattle.optext.specs.declared.rows.OperandKind.{OperandKind}
use Rattle.optext.specs.Rows.{name_of, base_of, first_of, second_of}
use Rattle.optext.specs.Line.{field_of, row_of, is_shown, operand_text, sep_text, op_text}
use Rattle.optext.specs.Guess.{head_of, row_for, operand_read, un_op, guess, guess_a, guess_b, guess_of}
use Rattle.optext.proofs.Laws.Choose.{no, bool_cases}
use Rattle.optext.proofs.Laws.Table.{none_is, none_both}
use Rattle.optext.proofs.Laws.Near.{agree-self}
use Rattle.optext.proofs.Laws.Heads.{head-own}
use Rattle.optext.proofs.Laws.Reserved.{row_lt, word_back}
use Rattle.optext.proofs.Laws.Inside.{allowed-1, allowed-2}
use Rattle.optext.proofs.Laws.Forms.{sep-none, sep-some}
use Rattle.optext.proofs.Laws.Back.{own_of, word_of}
use Rattle.optext.proofs.Laws.Back.{op-back}

-- an operand that is not shown
pub none-text : (k : OperandKind) (w x : ℕ) → is_shown k ≡ false → operand_text k w x ≡ []
none-text k w x e = rw (none_is k e) refl

none-back : (k : OperandKind) (t : List ℕ) (w x : ℕ) → is_shown k ≡ false → un_op k t ≡ operand_read (field_of k w) (word_of k w x) (length (operand_text k w x))
unfolding own_of
none-back k t w x e = rw (none_is k e) refl

module _ (w x y : ℕ) (lw : w < 65536) (lx : x < 65536) (ly : y < 65536) where
  line-none : is_shown (first_of (row_of w)) ≡ false → op_text w x y ≡ name_of (row_of w)
  unfolding op_text
  line-none e =
      rw (sep-none 32 (first_of (row_of w)) w x e, sep-none 44 (second_of (row_of w)) w y (none_both (row_of w) (row_lt w) e))
      (append-nil (name_of (row_of w) ++ []) ∙ append-nil (name_of (row_of w)))

  line-some : is_shown (first_of (row_of w)) ≡ true → op_text w x y ≡ name_of (row_of w) ++ (32 ∷ (operand_text (first_of (row_of w)) w x ++ sep_text 44 (second_of (row_of w)) w y))
  unfolding op_text
  line-some n = rw (sep-some 32 (first_of (row_of w)) w x n) (append_assoc (name_of (row_of w)) (32 ∷ operand_text (first_of (row_of w)) w x) (sep_text 44 (second_of (row_of w)) w y))

  -- the line begins with its row's mnemonic
  pub line-head : op_text w x y ≡ head_of (row_of w) ++ (operand_text (first_of (row_of w)) w x ++ sep_text 44 (second_of (row_of w)) w y)
  unfolding head_of
  line-head =
      ⊎_elim (λ e. line-none e ∙ sym (rw (e, none-text (first_of (row_of w)) w x e, sep-none 44 (second_of (row_of w)) w y (none_both (row_of w) (row_lt w) e)) (append-nil (name_of (row_of w)))))
      (λ n. rw (line-some n, n) (sym (append_assoc (name_of (row_of w)) (32 ∷ []) (operand_text (first_of (row_of w)) w x ++ sep_text 44 (second_of (row_of w)) w y))))
      (bool_cases (is_shown (first_of (row_of w))))

  row_back : row_for (op_text w x y) ≡ row_of w
  row_back =
      head-own (op_text w x y) (row_of w) (row_lt w)
      (rw line-head (agree-self (head_of (row_of w)) (operand_text (first_of (row_of w)) w x ++ sep_text 44 (second_of (row_of w)) w y)))

  A-back : guess_a (op_text w x y) ≡ operand_read (field_of (first_of (row_of w)) w) (word_of (first_of (row_of w)) w x) (length (operand_text (first_of (row_of w)) w x))
  unfolding guess_a
  A-back =
      rw row_back
      (⊎_elim (λ e. none-back (first_of (row_of w)) (drop (length (name_of (row_of w)) + 1) (op_text w x y)) w x e)
      (λ n. rw (line-some n, drop-append-add (name_of (row_of w)) (32 ∷ (operand_text (first_of (row_of w)) w x ++ sep_text 44 (second_of (row_of w)) w y)) 1)
      (op-back (first_of (row_of w)) w x (sep_text 44 (second_of (row_of w)) w y) lw lx (allowed-1 w lw)))
      (bool_cases (is_shown (first_of (row_of w)))))

  B-back : guess_b (op_text w x y) ≡ operand_read (field_of (second_of (row_of w)) w) (word_of (second_of (row_of w)) w y) (length (operand_text (second_of (row_of w)) w y))
  unfolding guess_b
  B-back =
      rw (row_back, A-back)
      (⊎_elim (λ e. none-back (second_of (row_of w)) (drop (length (name_of (row_of w)) + 1 + length (operand_text (first_of (row_of w)) w x) + 1) (op_text w x y)) w y e)
      (λ n. rw (after-comma n (both n)) (rw append-nil at (op-back (second_of (row_of w)) w y [] lw ly (allowed-2 w lw))))
      (bool_cases (is_shown (second_of (row_of w)))))
    where
      both : is_shown (second_of (row_of w)) ≡ true → is_shown (first_of (row_of w)) ≡ true
      both n = ⊎_elim (λ e. absurd (no (sym n ∙ none_both (row_of w) (row_lt w) e))) (λ e. e) (bool_cases (is_shown (first_of (row_of w))))

      after-comma : is_shown (second_of (row_of w)) ≡ true → is_shown (first_of (row_of w)) ≡ true → drop (length (name_of (row_of w)) + 1 + length (operand_text (first_of (row_of w)) w x) + 1) (op_text w x y) ≡ operand_text (second_of (row_of w)) w y
      after-comma n f =
          let N : List ℕ = name_of (row_of w) in
          let A : List ℕ = operand_text (first_of (row_of w)) w x in
          let B : List ℕ = operand_text (second_of (row_of w)) w y in
          let m : length N + 1 + length A + 1 ≡ length N + suc (length A + 1) = omega arith in
          rw (
            m,
            line-some f,
            sep-some 44 (second_of (row_of w)) w y n,
            drop-append-add N (32 ∷ (A ++ (44 ∷ B))) (suc (length A + 1)),
          )
          (drop-append-add A (44 ∷ B) 1)

  -- the guess at the line of w, x and y
  pub guess-back : guess_of (op_text w x y) ≡ guess w (word_of (first_of (row_of w)) w x) (word_of (second_of (row_of w)) w y)
  unfolding guess_of
  guess-back =
      let e = word_back w lw in
      let m : ((base_of (row_of w) + field_of (first_of (row_of w)) w) % 2 ^ 16 + field_of (second_of (row_of w)) w) % 2 ^ 16 ≡ w = omega arith in
      rw (row_back, A-back, B-back, m) refl
