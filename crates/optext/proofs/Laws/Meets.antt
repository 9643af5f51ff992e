-- The public contracts from the facts of the code: what the writer and the reader answer and leave.
use Rattle.std.proofs.Common.{◌≡◌, ℕ, zero, suc, ◌+◌, ◌%◌, ◌^◌, ◌<◌, ◌≤◌, ◌⊎◌, List, [], ◌∷◌, Result, Ok, Err, length, get_or, take, drop, sym, refl, ap, ◌∙◌, subst, inl, inr, ⊎_elim, arith, le-ltb, lt-ltb, ne_eqb}
use Rattle.optext.specs.declared.reading.Operand.{Operand}
use Rattle.optext.specs.declared.rows.OperandKind.{OperandKind}
use Rattle.optext.specs.declared.Written.{Written}
use Rattle.optext.specs.declared.WriteRefusal.{WriteRefusal}
use Rattle.optext.specs.declared.WriteRefusal.TheVariants.{TextShort, NoWords, WordMissing}
use Rattle.hexdigits.specs.Over.{Wrote}
use Rattle.optext.specs.Rows.{word_row, name_of, base_of, first_of, second_of}
use Rattle.optext.specs.Line.{row_of, operand_text, takes, sep_text, row_text, word_text, op_text, taken, text_of}
use Rattle.optext.specs.Guess.{row_for, un_op, guess, guess_a, guess_b, guess_of}
use Rattle.refusal.specs.Page.{left}
use Rattle.optext.specs.Answer.{line, written_page, write_why, write_of, Writes, write_word_of}
use Rattle.optext.specs.Column.{Whole}
use Rattle.optext.specs.Words.{Accepts, own, words_of}
use Rattle.hexdigits.proofs.Laws.Laid.{wrote-take, wrote-rest}
use Rattle.optext.proofs.Laws.Choose.{eq-cases}
use Rattle.optext.proofs.Laws.Forms.{takes-le}
use Rattle.optext.proofs.Laws.Back.{op-ignores}
use Rattle.optext.proofs.Laws.Longest.{text-le}

-- an op code has at most three words
pub taken-le : (w : ℕ) → taken w ≤ 3
unfolding taken
taken-le w = omega (arith, takes-le (first_of (row_of w)) w, takes-le (second_of (row_of w)) w)

-- the writer's four answers
module _ (ws b : List ℕ) where
  as_written : {r : Result Written WriteRefusal} {e : List ℕ} → left (written_page r) e ≡ write_of ws b → Writes ws b r e
  as_written h = record { met = h; few = taken-le (get_or ws 0 0); short = text-le ws }

  pub writes-8 : length b < 32 → Writes ws b (Err TextShort) b
  unfolding write_of write_why
  writes-8 h = as_written (rw (lt-ltb (length b) 32 h) refl)

  pub writes-6 : 32 ≤ length b → length ws < 1 → Writes ws b (Err NoWords) b
  unfolding write_of write_why
  writes-6 h g = as_written (rw (le-ltb (length b) 32 h, lt-ltb (length ws) 1 g) refl)

  pub writes-7 : 32 ≤ length b → 1 ≤ length ws → length ws < taken (get_or ws 0 0) → Writes ws b (Err WordMissing) b
  unfolding write_of write_why
  writes-7 h g k = as_written (rw (le-ltb (length b) 32 h, le-ltb (length ws) 1 g, lt-ltb (length ws) (taken (get_or ws 0 0)) k) refl)

  pub writes_line : (e : List ℕ) (n m : ℕ) → 32 ≤ length b → 1 ≤ length ws → taken (get_or ws 0 0) ≤ length ws
      → Wrote (text_of ws) b e n → m ≡ taken (get_or ws 0 0) → Writes ws b (line n m) e
  unfolding write_of write_why
  writes_line e n m h g k w q = as_written (rw (le-ltb (length b) 32 h, le-ltb (length ws) 1 g, le-ltb (length ws) (taken (get_or ws 0 0)) k, w.count, q, w.bytes) refl)

-- .WORD's two
module _ (w : ℕ) (b : List ℕ) where
  pub word-8 : length b < 32 → left (written_page (Err TextShort)) b ≡ write_word_of w b
  unfolding write_word_of
  word-8 h = rw (lt-ltb (length b) 32 h) refl

  pub word-line : (e : List ℕ) (n : ℕ) → 32 ≤ length b → Wrote (row_text word_row w 0 0) b e n → left (written_page (line n 1)) e ≡ write_word_of w b
  unfolding write_word_of word_text
  word-line e n h u = rw (le-ltb (length b) 32 h, u.count, u.bytes) refl

-- what the code of the guess computes, step by step
pub decode_is : (t : List ℕ) (k n b v w : ℕ) (f s : OperandKind) (A B : Operand) → k ≡ row_for t → n ≡ length (name_of k) → f ≡ first_of k → s ≡ second_of k → b ≡ base_of k
    → A ≡ un_op f (drop (n + 1) t) → B ≡ un_op s (drop (n + 1 + A.len + 1) t) → v ≡ (b + A.part) % 2 ^ 16 → w ≡ (v + B.part) % 2 ^ 16
    → guess w A.word B.word ≡ guess_of t
unfolding guess_of guess_b guess_a
decode_is t k n b v w f s A B e1 e2 e3 e4 e5 e6 e7 e8 e9 =
    let a : A ≡ guess_a t = e6 ∙ rw (e2, e3, e1) refl in
    let q : B ≡ guess_b t = e7 ∙ rw (e2, e4, e1, a) refl in
    rw (e9, e8, e5, e1, q, a) refl

-- the line in the word's own row is the word's line
pub own_row : (k w x y n : ℕ) (b e : List ℕ) → k ≡ row_of w → Wrote (row_text k w x y) b e n → Wrote (op_text w x y) b e n
unfolding op_text
own_row k w x y n b e q h = subst (λ (j : ℕ). Wrote (row_text j w x y) b e n) q h

-- operands of the same text make the same line
line-cong : (w x y x' y' : ℕ) → operand_text (first_of (row_of w)) w x ≡ operand_text (first_of (row_of w)) w x' → operand_text (second_of (row_of w)) w y ≡ operand_text (second_of (row_of w)) w y'
    → op_text w x y ≡ op_text w x' y'
unfolding op_text sep_text
line-cong w x y x' y' p q = rw (p, q) refl

-- each of up to three words
one : (a : ℕ) → a < 65536 → (i : ℕ) → get_or (a ∷ []) i 0 < 65536
one a l zero = l
one a l (suc i) = omega arith

two : (a b : ℕ) → a < 65536 → b < 65536 → (i : ℕ) → get_or (a ∷ b ∷ []) i 0 < 65536
two a b l m zero = l
two a b l m (suc i) = one b m i

pub three : (a b c : ℕ) → a < 65536 → b < 65536 → c < 65536 → (i : ℕ) → get_or (a ∷ b ∷ c ∷ []) i 0 < 65536
three a b c l m n zero = l
three a b c l m n (suc i) = two b c m n i

-- each operand takes no word of its own or one
pub by-taken : (w : ℕ) (P : Type 0)
    → (takes (first_of (row_of w)) w ≡ 0 → takes (second_of (row_of w)) w ≡ 0 → P) → (takes (first_of (row_of w)) w ≡ 0 → takes (second_of (row_of w)) w ≡ 1 → P)
    → (takes (first_of (row_of w)) w ≡ 1 → takes (second_of (row_of w)) w ≡ 0 → P) → (takes (first_of (row_of w)) w ≡ 1 → takes (second_of (row_of w)) w ≡ 1 → P) → P
by-taken w P a b c d =
    ⊎_elim (λ e. ⊎_elim (a e) (b e) (none-or-one (second_of (row_of w)))) (λ e. ⊎_elim (c e) (d e) (none-or-one (second_of (row_of w)))) (none-or-one (first_of (row_of w)))
  where
    none-or-one : (k : OperandKind) → (takes k w ≡ 0) ⊎ (takes k w ≡ 1)
    none-or-one k = let l = takes-le k w in ⊎_elim inl (λ e. inr (omega arith)) (eq-cases (takes k w) 0)

module _ (w x y : ℕ) (lw : w < 65536) where
  pub text-words : text_of (words_of w x y) ≡ op_text w x y
  unfolding text_of words_of own
  text-words =
      by-taken w (text_of (words_of w x y) ≡ op_text w x y)
      (λ e f. rw (e, f) (line-cong w 0 0 x y (op-ignores (first_of (row_of w)) w 0 x e) (op-ignores (second_of (row_of w)) w 0 y f)))
      (λ e f. rw (e, f) (line-cong w y y x y (op-ignores (first_of (row_of w)) w y x e) refl))
      (λ e f. rw (e, f) (line-cong w x 0 x y refl (op-ignores (second_of (row_of w)) w 0 y f)))
      (λ e f. rw (e, f) refl)

  pub whole_words : x < 65536 → y < 65536 → Whole (words_of w x y)
  unfolding words_of own taken
  whole_words lx ly =
      by-taken w (Whole (words_of w x y))
      (λ e f. whole (w ∷ []) (rw (e, f) refl) (rw (e, f) refl) (one w lw))
      (λ e f. whole (w ∷ y ∷ []) (rw (e, f) refl) (rw (e, f) refl) (two w y lw ly))
      (λ e f. whole (w ∷ x ∷ []) (rw (e, f) refl) (rw (e, f) refl) (two w x lw lx))
      (λ e f. whole (w ∷ x ∷ y ∷ []) (rw (e, f) refl) (rw (e, f) refl) (three w x y lw lx ly))
    where
      whole : (l : List ℕ) → words_of w x y ≡ l → length (words_of w x y) ≡ taken w → ((i : ℕ) → get_or l i 0 < 65536) → Whole (words_of w x y)
      whole l e c h = record { count = c; words = subst (λ (l : List ℕ). (i : ℕ) → get_or l i 0 < 65536) (sym e) h }

-- what the words of a guess are, by the words that its operands take
pub words-3 : (w x y m n : ℕ) → m ≡ takes (first_of (row_of w)) w → n ≡ takes (second_of (row_of w)) w → m ≡ 1 → n ≡ 1 → words_of w x y ≡ w ∷ x ∷ y ∷ []
unfolding words_of own
words-3 w x y m n e f p q = rw (← e, ← f, p, q) refl

pub words-a : (w x y m n : ℕ) → m ≡ takes (first_of (row_of w)) w → n ≡ takes (second_of (row_of w)) w → m ≡ 1 → (n ≡ 1 → ⊥) → words_of w x y ≡ w ∷ x ∷ []
unfolding words_of own
words-a w x y m n e f p q = rw (← e, ← f, p, ne_eqb n 1 q) refl

pub words-b : (w x y m n : ℕ) → m ≡ takes (first_of (row_of w)) w → n ≡ takes (second_of (row_of w)) w → (m ≡ 1 → ⊥) → n ≡ 1 → words_of w x y ≡ w ∷ y ∷ []
unfolding words_of own
words-b w x y m n e f p q = rw (← e, ← f, ne_eqb m 1 p, q) refl

pub words-1 : (w x y m n : ℕ) → m ≡ takes (first_of (row_of w)) w → n ≡ takes (second_of (row_of w)) w → (m ≡ 1 → ⊥) → (n ≡ 1 → ⊥) → words_of w x y ≡ w ∷ []
unfolding words_of own
words-1 w x y m n e f p q = rw (← e, ← f, ne_eqb m 1 p, ne_eqb n 1 q) refl

-- the reader's answer to a text that the writer makes, from the guess
pub accepts : (t ws e : List ℕ) (n w x y : ℕ) → w < 65536 → x < 65536 → y < 65536 → 3 ≤ length ws → op_text w x y ≡ t → Wrote (words_of w x y) ws e n
    → ((vs : List ℕ) → Whole vs → text_of vs ≡ t → vs ≡ words_of w x y) → Accepts t ws e n
accepts t ws e n w x y lw lx ly h q v o =
    let s : take n e ≡ words_of w x y = wrote-take (words_of w x y) ws e n v in
    record {
      room = h;
      count = v.count ∙ ap length (sym s);
      whole = subst (λ (l : List ℕ). Whole l) (sym s) (whole_words w x y lw lx ly);
      text = ap text_of s ∙ text-words w x y lw ∙ q;
      only = λ vs i z. o vs i z ∙ sym s;
      rest = wrote-rest (words_of w x y) ws e n v;
    }
