-- The line of the guess at a text agrees with the text as far as any line does, and is the line that the text begins with, if it begins with one.
use Rattle.std.proofs.Common.{◌≡◌, ℕ, ◌+◌, ◌<◌, true, false, cond, eqb, ltb, List, [], ◌∷◌, ◌++◌, length, get_or, drop, refl, ap, ◌∙◌, ⊎_elim, arith, length-append, drop-drop}
use Rattle.optext.specs.declared.rows.OperandKind.{OperandKind}
use Rattle.optext.specs.declared.rows.OperandKind.TheVariants.{None, Mask, Disp, Reg, Arg4, Arg6, Count, High, Mid, Dst, Addr, Src, Word}
use Rattle.optext.specs.declared.reading.Operand.{Operand}
use Rattle.optext.specs.First.{agree}
use Rattle.optext.specs.Rows.{row_count, name_of, base_of, first_of, second_of}
use Rattle.optext.specs.Line.{row_of, is_shown, operand_text, sep_text, op_text}
use Rattle.optext.specs.Guess.{head_of, row_for, un_plain, un_mode, un_op, guess_a, guess_b, guess_of}
use Rattle.optext.proofs.Laws.Choose.{bool_cases, choose}
use Rattle.optext.proofs.Laws.Near.{Near}
use Rattle.optext.proofs.Laws.Near.{near-nil, near-at, near_next, near-seq, whole_split}
use Rattle.optext.proofs.Laws.Heads.{row_at-lt, head-own, head-some, near-head}
use Rattle.optext.proofs.Laws.Forms.{sep-none, sep-some}
use Rattle.optext.proofs.Laws.Table.{none_both}
use Rattle.optext.proofs.Laws.Back.{op-back}
use Rattle.optext.proofs.Laws.Trip.{none-text, line-head}
use Rattle.optext.proofs.Laws.Reserved.{row_lt}
use Rattle.optext.proofs.Laws.Inside.{Allowed, PartOk, guess-lt, inside, part-1, part-2, allowed-1, allowed-2}
use Rattle.optext.proofs.Laws.Operands.{again, part-ok, near-operand, hex4-lt}

-- the words that are read are words
abbrev IsWord : Operand → Type 0
IsWord o = o.word < 65536

plain_word : (t : List ℕ) → (un_plain t).word < 65536
unfolding un_plain
plain_word t =
    choose IsWord (eqb (get_or t 0 0) 40) _ _ (omega arith) (choose IsWord (eqb (get_or t 0 0) 45) _ _ (omega arith)
    (choose IsWord (eqb (get_or t 0 0) 35) _ _ (hex4-lt (drop 1 t)) (choose IsWord (ltb (get_or t 0 0) 71) _ _ (hex4-lt t) (omega arith))))

mode-word : (t : List ℕ) → (un_mode t).word < 65536
unfolding un_mode
mode-word t = choose IsWord (eqb (get_or t 0 0) 64) _ _ (plain_word (drop 1 t)) (plain_word t)

op-word : (k : OperandKind) (t : List ℕ) → (un_op k t).word < 65536
op-word None t = omega arith
op-word Mask t = hex4-lt t
op-word Disp t = omega arith
op-word Reg t = omega arith
op-word Arg4 t = omega arith
op-word Arg6 t = omega arith
op-word Count t = omega arith
op-word High t = omega arith
op-word Mid t = omega arith
op-word Dst t = mode-word t
op-word Addr t = mode-word t
op-word Src t = mode-word t
op-word Word t = omega arith

module _ (t : List ℕ) where
  ok-1 : PartOk (first_of (row_for t)) (guess_a t).part
  unfolding guess_a
  ok-1 = part-ok (first_of (row_for t)) (drop (length (name_of (row_for t)) + 1) t)

  ok-2 : PartOk (second_of (row_for t)) (guess_b t).part
  unfolding guess_b
  ok-2 = part-ok (second_of (row_for t)) (drop (length (name_of (row_for t)) + 1 + (guess_a t).len + 1) t)

  guess-w : (guess_of t).w ≡ base_of (row_for t) + (guess_a t).part + (guess_b t).part
  unfolding guess_of
  guess-w = let h = guess-lt (row_for t) (guess_a t).part (guess_b t).part (row_at-lt t) ok-1 ok-2 in omega arith

  pub lt-w : (guess_of t).w < 65536
  lt-w = rw guess-w (guess-lt (row_for t) (guess_a t).part (guess_b t).part (row_at-lt t) ok-1 ok-2)

  pub lt-x : (guess_of t).x < 65536
  unfolding guess_of guess_a
  lt-x = op-word (first_of (row_for t)) (drop (length (name_of (row_for t)) + 1) t)

  pub lt-y : (guess_of t).y < 65536
  unfolding guess_of guess_b
  lt-y = op-word (second_of (row_for t)) (drop (length (name_of (row_for t)) + 1 + (guess_a t).len + 1) t)

  row_same : row_of (guess_of t).w ≡ row_for t
  row_same = rw guess-w (inside (row_for t) (guess_a t).part (guess_b t).part (row_at-lt t) ok-1 ok-2)

  -- the second operand with the comma, as it was read
  abbrev sep_again : OperandKind → Operand → List ℕ
  sep_again k o = cond (is_shown k) (44 ∷ again k o) []

  guess-line : op_text (guess_of t).w (guess_of t).x (guess_of t).y ≡ head_of (row_for t) ++ (again (first_of (row_for t)) (guess_a t) ++ sep_again (second_of (row_for t)) (guess_b t))
  unfolding sep_text guess_of
  guess-line =
      line-head (guess_of t).w (guess_of t).x (guess_of t).y lt-w lt-x lt-y
      ∙ rw (row_same, guess-w, part-1 (row_for t) (guess_a t).part (guess_b t).part (guess_a t).word (row_at-lt t) ok-1 ok-2, part-2 (row_for t) (guess_a t).part (guess_b t).part (guess_b t).word (row_at-lt t) ok-1 ok-2) refl

-- the second operand, after the comma
near-sep : (s : OperandKind) (v : List ℕ) (w y : ℕ) → w < 65536 → y < 65536 → Allowed s w
    → Near v (sep_text 44 s w y) (cond (is_shown s) (44 ∷ again s (un_op s (drop 1 v))) [])
near-sep s v w y lw ly a =
    ⊎_elim (λ e. rw (sep-none 44 s w y e, e) (near-nil v))
    (λ e. rw (sep-some 44 s w y e, e)
    (near-at v 44 (operand_text s w y) (λ (l : List ℕ). 44 ∷ again s (un_op s (drop 1 l))) (λ u. near_next u 44 (operand_text s w y) (again s (un_op s u)) (near-operand s u w y lw ly a))))
    (bool_cases (is_shown s))

-- the operands
near-operands : (f s : OperandKind) (u : List ℕ) (w x y : ℕ) → w < 65536 → x < 65536 → y < 65536 → Allowed f w → Allowed s w
    → Near u (operand_text f w x ++ sep_text 44 s w y) (again f (un_op f u) ++ cond (is_shown s) (44 ∷ again s (un_op s (drop ((un_op f u).len + 1) u))) [])
near-operands f s u w x y lw lx ly a b =
    near-seq u (operand_text f w x) (sep_text 44 s w y) (again f (un_op f u)) (cond (is_shown s) (44 ∷ again s (un_op s (drop ((un_op f u).len + 1) u))) [])
    (near-operand f u w x lw lx a) (λ e q. rw (len e, ← drop-drop 1 (length (operand_text f w x)) u) (near-sep s (drop (length (operand_text f w x)) u) w y lw ly b))
  where
    len : agree u (operand_text f w x) ≡ length (operand_text f w x) → (un_op f u).len ≡ length (operand_text f w x)
    len e =
        ap (λ (l : List ℕ). (un_op f l).len) (whole_split u (operand_text f w x) e)
        ∙ ap (λ (o : Operand). o.len) (op-back f w x (drop (length (operand_text f w x)) u) lw lx a)

module _ (t : List ℕ) (w x y : ℕ) (lw : w < 65536) (lx : x < 65536) (ly : y < 65536) where
  after-head : (k : ℕ) → k < row_count → Allowed (first_of k) w → Allowed (second_of k) w → row_for t ≡ k
      → Near (drop (length (head_of k)) t) (operand_text (first_of k) w x ++ sep_text 44 (second_of k) w y) (again (first_of (row_for t)) (guess_a t) ++ sep_again t (second_of (row_for t)) (guess_b t))
  unfolding guess_a guess_b
  after-head k h a b r = rw r (⊎_elim none some (bool_cases (is_shown (first_of k))))
    where
      u : List ℕ
      u = drop (length (name_of k) + 1) t

      A : Operand
      A = un_op (first_of k) u

      B : Operand
      B = un_op (second_of k) (drop (length (name_of k) + 1 + A.len + 1) t)

      none : is_shown (first_of k) ≡ false → Near (drop (length (head_of k)) t) (operand_text (first_of k) w x ++ sep_text 44 (second_of k) w y) (again (first_of k) A ++ sep_again t (second_of k) B)
      none e =
          let f = none_both k h e in
          rw (none-text (first_of k) w x e, none-text (first_of k) A.part A.word e, sep-none 44 (second_of k) w y f, f) (near-nil (drop (length (head_of k)) t))

      long : is_shown (first_of k) ≡ true → length (head_of k) ≡ length (name_of k) + 1
      long e = ap length (head-some t k e) ∙ length-append (name_of k) (32 ∷ [])

      move : length (name_of k) + 1 + A.len + 1 ≡ length (name_of k) + 1 + (A.len + 1)
      move = omega arith

      some : is_shown (first_of k) ≡ true → Near (drop (length (head_of k)) t) (operand_text (first_of k) w x ++ sep_text 44 (second_of k) w y) (again (first_of k) A ++ sep_again t (second_of k) B)
      some e = rw (long e, move, ← drop-drop (A.len + 1) (length (name_of k) + 1) t) (near-operands (first_of k) (second_of k) u w x y lw lx ly a b)

  -- THE GUESS IS NEAREST
  pub nearest : Near t (op_text w x y) (op_text (guess_of t).w (guess_of t).x (guess_of t).y)
  nearest =
      rw (line-head w x y lw lx ly, guess-line t)
      (near-seq t (head_of (row_of w)) (operand_text (first_of (row_of w)) w x ++ sep_text 44 (second_of (row_of w)) w y) (head_of (row_for t))
      (again (first_of (row_for t)) (guess_a t) ++ sep_again t (second_of (row_for t)) (guess_b t)) (near-head t (row_of w) (row_lt w))
      (λ e q. after-head (row_of w) (row_lt w) (allowed-1 w lw) (allowed-2 w lw) (head-own t (row_of w) (row_lt w) e)))
